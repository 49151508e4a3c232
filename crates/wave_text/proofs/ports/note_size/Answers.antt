use Rattle.wave_text.proofs.Words.{◌≡◌, ◌<◌, ℕ, [], ◌∷◌, ◌++◌, Option, Some, None, length, get_or, ap, sym, subst, refl}
use Rattle.wave_text.proofs.Words.{set, ◌∙◌, arith, slice_get-get_or, What, larger, HasMost, HasPlace}
use Rattle.wave_text.proofs.Words.{host_in, message_said, table_place, what_in}
use Rattle.wave_text.proofs.Tables.{most-placed, most-unplaced, place-lt}
use Rattle.wave_text.proofs.ports.note_size.Goals as goal

pub returns-in-Some : goal.returns-in-Some
returns-in-Some c = λ k does lines has is.
    let shown = c.args.line.now in
    let sizes = c.args.sizes.now in
    let found = c.in-Some.ensures.some in
    let had : HasPlace (host_in shown) (what_in shown) =
    subst (λ (d : What). HasPlace (host_in shown) d) found.1
    (subst (λ (h : ℕ). HasPlace h c.in-Some.what) found.0 found.2) in
    let place = table_place (host_in shown) (what_in shown) in
    let at : c.table_place-at.result ≡ place =
    c.table_place-at.ensures.value ∙ ap (λ (h : ℕ). table_place h c.in-Some.what) found.0
    ∙ ap (table_place (host_in shown)) found.1 in
    let size : Option ℕ = get_or sizes place None in
    let less : place < length sizes = omega (arith, c.requires, place-lt (host_in shown) (what_in shown) had) in
    let most : Some c.larger.result ≡ larger size (Some (length (message_said shown).payload)) =
    c.larger.ensures ∙ ap (λ (p : ℕ). larger (get_or sizes p None) (Some c.size_in.result)) at
    ∙ ap (λ (n : ℕ). larger size (Some n)) c.size_in.ensures in
    subst (λ (p : ℕ). HasMost (set sizes p (Some c.larger.result)) (lines ++ shown ∷ []) k does) (sym at)
    (subst (λ (m : Option ℕ). HasMost (set sizes place m) (lines ++ shown ∷ []) k does) (sym most)
    (most-placed sizes lines shown size k does has had c.requires (slice_get-get_or sizes place None less) is))

pub returns-in_default : goal.returns-in_default
returns-in_default c = λ k does lines has is.
    most-unplaced c.args.sizes.now lines c.args.line.now k does has (c.in_default.ensures.none refl) is
