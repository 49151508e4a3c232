use Rattle.std.proofs.Common.{◌≡◌, false}
use Rattle.std.proofs.lemmas.Bool.{false_from_ne_true}
use Rattle.std.proofs.lemmas.Str.{IsUtf8-from_is_utf8, is_utf8-from_IsUtf8}
use Rattle.std.specs.Str.{is_utf8}
use Rattle.list_places.proofs.places.bytes_stop.Goals as goal

pub returns-in-Ok : goal.returns-in-Ok
returns-in-Ok c =
    let is_text = is_utf8-from_IsUtf8 c.args.text.now c.in-Ok.ensures.cases.1 in
    rw is_text (rw c.in-Ok.ensures.cases.0 at c.stop_of.ensures)

pub returns-in-Err : goal.returns-in-Err
returns-in-Err c =
    let no_text : is_utf8 c.args.text.now ≡ false =
    false_from_ne_true _ (λ test. c.in-Err.ensures.cases.0 (IsUtf8-from_is_utf8 c.args.text.now test)) in
    rw no_text
