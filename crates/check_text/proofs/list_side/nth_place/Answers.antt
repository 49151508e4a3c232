use Rattle.check_text.proofs.Sides.{nth_is}
use Rattle.check_text.proofs.list_side.nth_place.Goals as goal

pub returns-then-i-places : goal.returns-then-i-places
returns-then-i-places c = nth_is c.args.places.now c.args.i c.if-i-places.true
