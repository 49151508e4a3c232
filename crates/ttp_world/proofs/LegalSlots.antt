-- Numbers of a slot that are legal by themselves are legal after legal ones, where the slot's own reads do not fall.
use Rattle.ttp_world.proofs.Words.{◌≡◌, ℕ, ◌≤◌, true, ◌&&◌, List, [], ◌∷◌, ◌++◌, length, refl, ap, ◌∙◌, subst, arith}
use Rattle.ttp_world.proofs.Words.{◌==◌, reverse, list_all, and_parts, Medl, Script, ReadMessage, read_messages}
use Rattle.ttp_world.proofs.Words.{is_legal_read, is_legal_slot, are_legal_slots, is_same_ring, all_reads, is_not_older}
use Rattle.ttp_world.proofs.Words.{never_fall, IsLegal, reads_in, SlotNumbers, Numbers, world}
use Rattle.std.proofs.lemmas.List.Folds.{list_all-append}
use Rattle.ttp_world.specs.declared.host_lines.HostRead.{HostRead}
use Rattle.ttp_world.proofs.LegalReads.{newest_of, AreUpTo, AreFrom, between, reads-up_to}
use Rattle.ttp_world.proofs.LegalReads.{reverse-all, same_read, not_older_if}
use Rattle.ttp_world.proofs.LegalShapes.{are_legal_slots-parts, slots-legal, reads-never_fall}
use Rattle.ttp_world.proofs.Worlds.{row_of_world, length-world}

-- reads that are not below a limit, after reads that are not past it
not_older : (limit : HostRead → ℕ) (r : ReadMessage) (earlier : List ReadMessage) → limit r.read ≤ r.number
    → AreUpTo limit earlier → list_all (is_not_older r) earlier ≡ true
not_older limit r [] from up = refl
not_older limit r (e ∷ earlier) from up =
    let here : is_not_older r e ≡ true =
    not_older_if (is_same_ring r.read e.read) e.number r.number
    (λ same. omega (arith, up.0, from, ap limit (same_read r.read e.read same))) in
    λ i. here i && not_older limit r earlier from up.1 i

never_fall-after : (limit : HostRead → ℕ) (rs earlier : List ReadMessage) → never_fall rs ≡ true → AreFrom limit rs
    → AreUpTo limit earlier → never_fall earlier ≡ true → never_fall (rs ++ earlier) ≡ true
never_fall-after limit [] earlier here from up falls = falls
never_fall-after limit (r ∷ rs) earlier here from up falls =
    let parts = and_parts (list_all (is_not_older r) rs) (never_fall rs) here in
    let all = list_all-append (is_not_older r) rs earlier ∙ (λ i. parts.0 i && not_older limit r earlier from.0 up i) in
    λ i. all i && never_fall-after limit rs earlier parts.1 from.1 up falls i

-- So a slot's numbers follow.
pub legal-after : (list : Medl) (script : Script) (new : SlotNumbers) (numbers : Numbers) → IsLegal list script numbers
    → is_legal_slot list script (row_of_world list script new numbers) (world list script numbers) new ≡ true
    → never_fall (reverse (read_messages (reads_in script (length numbers)) new.read)) ≡ true
    → IsLegal list script (new ∷ numbers)
legal-after list script new numbers legal slot reads =
    let before = world list script numbers in
    let after = world list script (new ∷ numbers) in
    let rs = λ (at : ℕ). read_messages (reads_in script at) new.read in
    let slots : are_legal_slots list script after (new ∷ numbers) ≡ true =
    λ i. slot i && slots-legal list script numbers legal i in
    let parts = are_legal_slots-parts list script new numbers slots in
    let from = (between list script before after (rs (length before))
    (and_parts (length (reads_in script (length before)) == length new.read)
    (list_all (is_legal_read list script before after) (rs (length before))) parts.reads).1).from in
    let here = reverse-all (λ r. newest_of list script before r.read ≤ r.number) (rs (length numbers))
    (subst (λ at. AreFrom (newest_of list script before) (rs at)) (length-world list script numbers) from) in
    let falls = never_fall-after (newest_of list script before) (reverse (rs (length numbers)))
    (all_reads script numbers)
    reads here (reads-up_to list script numbers (slots-legal list script numbers legal))
    (reads-never_fall list script numbers legal) in
    λ i. slots i && falls i
