use Rattle.wave_text.proofs.Words.{◌≡◌, ℕ, [], ◌∷◌, ◌++◌, Option, ap, sym, subst, refl, set, ◌∙◌, Message, What}
use Rattle.wave_text.proofs.Words.{message_in_line, HasNewest, HasPlace, host_in, table_place, what_in}
use Rattle.wave_text.proofs.Tables.{newest-placed, newest-unplaced}
use Rattle.wave_text.proofs.newest.note_message.Goals as goal

pub returns-in-Some : goal.returns-in-Some
returns-in-Some c = λ k does lines has is.
    let shown = c.args.line.now in
    let messages = c.args.messages.now in
    let found = c.in-Some.ensures.some in
    let had : HasPlace (host_in shown) (what_in shown) =
    subst (λ (d : What). HasPlace (host_in shown) d) found.1
    (subst (λ (h : ℕ). HasPlace h c.in-Some.what) found.0 found.2) in
    let at : c.table_place.result ≡ table_place (host_in shown) (what_in shown) =
    c.table_place.ensures.value ∙ ap (λ (h : ℕ). table_place h c.in-Some.what) found.0
    ∙ ap (table_place (host_in shown)) found.1 in
    let message : c.message_in_line.result ≡ message_in_line (host_in shown) (what_in shown) shown =
    c.message_in_line.ensures ∙ ap (λ (h : ℕ). message_in_line h c.in-Some.what shown) found.0
    ∙ ap (λ (d : What). message_in_line (host_in shown) d shown) found.1 in
    subst (λ (p : ℕ). HasNewest (set messages p c.message_in_line.result) (lines ++ shown ∷ []) k does) (sym at)
    (subst (λ (m : Option Message). HasNewest (set messages (table_place (host_in shown) (what_in shown)) m)
    (lines ++ shown ∷ []) k does) (sym message) (newest-placed messages lines shown k does has had c.requires is))

pub returns-in_default : goal.returns-in_default
returns-in_default c = λ k does lines has is.
    newest-unplaced c.args.messages.now lines c.args.line.now k does has (c.in_default.ensures.none refl) is
