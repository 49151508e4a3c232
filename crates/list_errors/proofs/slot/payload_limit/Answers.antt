use Rattle.std.proofs.Common.{refl, sym, ◌∙◌}
use Rattle.std.proofs.lemmas.List.Folds.{list_all-map}
use Rattle.ttp_world.specs.Medl.{is_bare}
use Rattle.medl_text.specs.ListFile.{kind_of}
use Rattle.list_errors.proofs.slot.payload_limit.Goals as goal

pub returns-then-are_bare : goal.returns-then-are_bare
returns-then-are_bare c =
    rw (list_all-map is_bare kind_of c.args.letters.now ∙ sym c.are_bare.ensures ∙ c.if-are_bare.true) refl

pub returns-else-are_bare : goal.returns-else-are_bare
returns-else-are_bare c =
    rw (list_all-map is_bare kind_of c.args.letters.now ∙ sym c.are_bare.ensures ∙ c.if-are_bare.false) refl
