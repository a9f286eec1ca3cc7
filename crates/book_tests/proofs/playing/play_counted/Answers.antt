use Rattle.book_tests.proofs.playing.play_counted.Goals as goal

pub loop-step-init : goal.loop-step-init
loop-step-init g c = record { first = tt; second = tt; closed = c.begin.ensures }
