-- What it says of items that no fault is found in their targets.
use Rattle.std.proofs.Common.{◌≡◌, ◌<◌, ◌≤◌, ◌+◌, ◌&&◌, ◌||◌, ℕ, zero, suc, Bool, true, false, not, nat_lt, List, [], ◌∷◌, ◌++◌, map, length, refl, sym, ◌∙◌, ap, ap₂, arith, true≢false}
use Rattle.std.proofs.lemmas.Bool.{lt-ltb, not-false}
use Rattle.ls_text.specs.declared.fault.Fault.{Fault}
use Rattle.typed_ir.specs.declared.span.Span.{Span}
use Rattle.typed_ir.specs.Orders.{Each, at_or}
use Rattle.typed_ir.proofs.Cases.{and_left, by_order}
use Rattle.typed_ir.proofs.Lists.{each_weaker}
use Rattle.typed_ir.specs.declared.signal_declaration.SignalDeclaration.{SignalDeclaration}
use Rattle.typed_ir.specs.declared.typed_item.TypedItem.{TypedItem}
use Rattle.typed_ir.specs.Items.{SizedBody, Node, Clocked, Initial, PlacedItem, item_of}
use Rattle.width_rules.specs.declared.writer.Writer.{Writer}
use Rattle.width_rules.specs.declared.writer.Writer.TheVariants as writer
use Rattle.block_rules.specs.Paths.{places_of_true}
use Rattle.width_rules.proofs.Reading.{left_none, right_none}
use Rattle.driver_rules.specs.Mentioned.{earliest, shown_faults}
use Rattle.driver_rules.specs.Writes.{node_spans, spans_of, written, AreWithin, AreItemsWithin}
use Rattle.driver_rules.specs.Targets.{flag_at, is_settled, is_net_kind, is_variable_kind, is_variable, writer_of, may_write, target_faults, all_target_faults}
use Rattle.driver_rules.proofs.Sooner.{none_shown}
use Rattle.driver_rules.proofs.Lists.{all_false, each_mapped, at_or_past}

pub each_both : {A : Type 0} (P Q : A → Type 0) (xs : List A) → Each P xs → Each Q xs → Each (λ x. P x × Q x) xs
each_both P Q [] h k = tt
each_both P Q (x ∷ xs) h k = ((h.0, k.0), each_both P Q xs h.1 k.1)

-- ---- targets

-- each signal that an item writes is one that it may write
abbrev pub MayWrite : List SignalDeclaration → (ℕ → Bool) → PlacedItem → Type 0
MayWrite ds f x = Each (λ (s : ℕ). may_write ds f (writer_of x.body) s ≡ true) (written x.body)

item_may : (ds : List SignalDeclaration) (f : ℕ → Bool) (x : PlacedItem) → target_faults ds f x ≡ [] → MayWrite ds f x
item_may ds f x none =
    let flags = map (λ s. not (may_write ds f (writer_of x.body) s)) (written x.body) in
    each_weaker (λ (s : ℕ). not (may_write ds f (writer_of x.body) s) ≡ false) (λ (s : ℕ). may_write ds f (writer_of x.body) s ≡ true) (written x.body)
    (λ s. not-false (may_write ds f (writer_of x.body) s))
    (each_mapped (λ s. not (may_write ds f (writer_of x.body) s)) (written x.body)
    (all_false 0 flags (none_shown 33 (places_of_true flags) x.targets x.at none)))

pub items_may : (ds : List SignalDeclaration) (f : ℕ → Bool) (xs : List PlacedItem) → all_target_faults ds f xs ≡ [] → Each (MayWrite ds f) xs
items_may ds f [] none = tt
items_may ds f (x ∷ xs) none = (
  item_may ds f x (left_none (target_faults ds f x) (all_target_faults ds f xs) none),
  items_may ds f xs (right_none (target_faults ds f x) (all_target_faults ds f xs) none),
)

-- what may be written is declared
inside : (g : SignalDeclaration → Bool) (ds : List SignalDeclaration) (s : ℕ) → at_or g false ds s ≡ true → s < length ds
inside g ds s h = by_order s (length ds) (λ k. k) (λ past. absurd (true≢false (sym h ∙ at_or_past g false ds s past)))

may_inside : (ds : List SignalDeclaration) (f : ℕ → Bool) (w : Writer) (s : ℕ) → may_write ds f w s ≡ true → s < length ds
may_inside ds f writer.Nothing s h = absurd (true≢false (sym h))
may_inside ds f writer.Continuous s h = inside (λ (d : SignalDeclaration). is_net_kind d.kind) ds s h
may_inside ds f writer.Clocked s h = inside (λ (d : SignalDeclaration). is_variable_kind d.kind) ds s (and_left (is_variable ds s) (not (f s)) h)
may_inside ds f writer.Combinational s h = inside (λ (d : SignalDeclaration). is_variable_kind d.kind) ds s h

pub each_signal : (P : ℕ → Type 0) (spans : List Span) → Each P (map (λ (p : Span). p.signal) spans) → Each (λ (p : Span). P p.signal) spans
each_signal P [] h = tt
each_signal P (p ∷ ps) h = (h.0, each_signal P ps h.1)

body_within : (count : ℕ) (body : SizedBody) → Each (λ (s : ℕ). s < count) (written body) → AreWithin count (spans_of body)
body_within count (Node node) h = each_signal (λ (s : ℕ). s < count) (node_spans node) h
body_within count (Clocked st) h = each_signal (λ (s : ℕ). s < count) (spans_of (Clocked st)) h
body_within count (Initial signal) h = tt

pub all_within : (ds : List SignalDeclaration) (f : ℕ → Bool) (xs : List PlacedItem) → all_target_faults ds f xs ≡ [] → AreItemsWithin (length ds) xs
all_within ds f xs none = each_weaker (MayWrite ds f) (λ (x : PlacedItem). AreWithin (length ds) (spans_of x.body)) xs
    (λ x may. body_within (length ds) x.body
    (each_weaker (λ (s : ℕ). may_write ds f (writer_of x.body) s ≡ true) (λ (s : ℕ). s < length ds) (written x.body)
    (λ s. may_inside ds f (writer_of x.body) s) may))
    (items_may ds f xs none)

-- ---- two ways to say which variables are settled

may_same : (ds : List SignalDeclaration) (f g : ℕ → Bool) (w : Writer) (s : ℕ) → ((t : ℕ) → t < length ds → f t ≡ g t) → may_write ds f w s ≡ may_write ds g w s
may_same ds f g writer.Nothing s h = refl
may_same ds f g writer.Continuous s h = refl
may_same ds f g writer.Combinational s h = refl
may_same ds f g writer.Clocked s h = by_order s (length ds)
    (λ k. ap (λ b. is_variable ds s && not b) (h s k))
    (λ past. let none : is_variable ds s ≡ false = at_or_past (λ (d : SignalDeclaration). is_variable_kind d.kind) false ds s past in
    ap (λ b. b && not (f s)) none ∙ sym (ap (λ b. b && not (g s)) none))

flags_same : (ds : List SignalDeclaration) (f g : ℕ → Bool) (w : Writer) (ss : List ℕ) → ((t : ℕ) → t < length ds → f t ≡ g t)
    → map (λ s. not (may_write ds f w s)) ss ≡ map (λ s. not (may_write ds g w s)) ss
flags_same ds f g w [] h = refl
flags_same ds f g w (s ∷ ss) h = ap₂ (λ b bs. not b ∷ bs) (may_same ds f g w s h) (flags_same ds f g w ss h)

pub targets_same : (ds : List SignalDeclaration) (f g : ℕ → Bool) (xs : List PlacedItem) → ((t : ℕ) → t < length ds → f t ≡ g t)
    → all_target_faults ds f xs ≡ all_target_faults ds g xs
targets_same ds f g [] h = refl
targets_same ds f g (x ∷ xs) h =
    ap₂ (λ (one rest : List Fault). one ++ rest)
    (ap (λ flags. shown_faults 33 (earliest (places_of_true flags) x.targets x.at)) (flags_same ds f g (writer_of x.body) (written x.body) h))
    (targets_same ds f g xs h)

-- what the check says of slices and flags, of the items themselves
pub checked_is : (ds ds' : List SignalDeclaration) (flags flags' : List Bool) (xs ys zs : List TypedItem) (n : ℕ)
    → ds' ≡ ds → flags' ≡ flags → ys ≡ xs → zs ≡ xs → n ≡ length ds
    → ((s : ℕ) → flag_at flags s ≡ (nat_lt s n && is_settled (map item_of ys) s))
    → all_target_faults ds' (flag_at flags') (map item_of zs) ≡ all_target_faults ds (is_settled (map item_of xs)) (map item_of xs)
checked_is ds ds' flags flags' xs ys zs n d f y z many flag =
    ap₂ (λ (e : List SignalDeclaration) (g : List Bool). all_target_faults e (flag_at g) (map item_of zs)) d f
    ∙ ap (λ (vs : List TypedItem). all_target_faults ds (flag_at flags) (map item_of vs)) z
    ∙ targets_same ds (flag_at flags) (is_settled (map item_of xs)) (map item_of xs)
    (λ t low. flag t ∙ ap (λ b. b && is_settled (map item_of ys) t) (lt-ltb t n (omega (arith, low, many)))
    ∙ ap (λ (vs : List TypedItem). is_settled (map item_of vs) t) y)
