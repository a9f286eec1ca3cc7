-- What a sized expression of the code means: the same, without where it lies in memory.
use Rattle.typed_ir.specs.Sized.{Sized, Constant, Name, Part, Pick, Unary, Binary, Choice, Concat, Repeat, Resized}
use Rattle.typed_ir.specs.declared.form.Form.{Form}
use Rattle.typed_ir.specs.declared.form.Form.TheVariants.{Constant as Constant', Name as Name', Part as Part', Pick', Unary', Binary', Choice', Concat', Repeat', Resized'}

abbrev pub sized : Form → Sized
sized (Constant' b) = Constant b.width b.value
sized (Name' signal width) = Name signal width
sized (Part' span) = Part span
sized (Pick' signal width below signed p index) = Pick signal width below signed (sized index)
sized (Unary' op p a) = Unary op (sized a)
sized (Binary' op p a q b) = Binary op (sized a) (sized b)
sized (Choice' o c p a q b) = Choice (sized c) (sized a) (sized b)
sized (Concat' width p a q b) = Concat width (sized a) (sized b)
sized (Repeat' width count p a) = Repeat width count (sized a)
sized (Resized' p a width signed) = Resized (sized a) width signed
