use Rattle.safety_laws.proofs.Kept.{kept-alike, kept-places, kept-stands_alike}
use Rattle.safety_laws.proofs.same_frames.Goals as goal

pub returns-clause-frames : goal.returns-clause-frames
returns-clause-frames c =
    kept-alike c.args.list.now c.args.script.now c.args.start c.requires.valid c.requires.script c.requires.kept

pub returns-clause-stints : goal.returns-clause-stints
returns-clause-stints c =
    kept-stands_alike c.args.list.now c.args.script.now c.args.start c.requires.valid c.requires.script c.requires.kept

pub returns-clause-places : goal.returns-clause-places
returns-clause-places c =
    kept-places c.args.list.now c.args.script.now c.args.start c.requires.valid c.requires.script c.requires.kept
