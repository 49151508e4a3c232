use Rattle.ttp_top.proofs.Terms.{refl, inl}
use Rattle.ttp_top.proofs.ask.tell.Goals as goal

pub returns-in-Keeps : goal.returns-in-Keeps
returns-in-Keeps g c = rw c.in-Keeps.is (refl, inl c.show_keep.ensures)

pub returns-in-Verify : goal.returns-in-Verify
returns-in-Verify g c = rw c.in-Verify.is c.judge.ensures

pub returns-in-Precision : goal.returns-in-Precision
returns-in-Precision g c = rw c.in-Precision.is (refl, c.show_precision.ensures)

pub returns-in-Modes : goal.returns-in-Modes
returns-in-Modes g c = rw c.in-Modes.is c.judge-in-Modes.ensures
