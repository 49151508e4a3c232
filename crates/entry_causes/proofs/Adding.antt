-- Lines and entries that are added one after another.
use Rattle.std.proofs.Common.{◌++◌, List, ap, append_assoc, sym, ◌∙◌}
use Rattle.std.proofs.lemmas.List.{append-nil}
use Rattle.std.specs.Prelude.{Result, Ok, Err, OnOk}
use Rattle.causes.specs.Sources as causes
use Rattle.causes.specs.Sources.{no_sources, with_sources}
use Rattle.causes.specs.declared.cause.ScriptLine.{ScriptLine}
use Rattle.causes.specs.declared.cause.Spot.{Spot}
use Rattle.run_looks.specs.Added.{AddsSources}
use Rattle.run_looks.specs.declared.sources.Sources.{Sources}

pub adds-none : (s : Sources) → AddsSources s s no_sources
adds-none s = record { lines = sym (append-nil s.lines); entries = sym (append-nil s.entries) }

pub adds-both : (old between new : Sources) (a b : causes.Sources)
    → AddsSources old between a → AddsSources between new b
    → AddsSources old new (with_sources a b)
adds-both old between new a b first second = record {
  lines =
      second.lines ∙ ap (λ (lines : List ScriptLine). lines ++ b.lines) first.lines
      ∙ append_assoc old.lines a.lines b.lines;
  entries =
      second.entries ∙ ap (λ (entries : List Spot). entries ++ b.entries) first.entries
      ∙ append_assoc old.entries a.entries b.entries;
}

-- where memory was had
pub on-ok : {A B P Q : Type 0} (r : Result A B) → (P → Q) → OnOk r P → OnOk r Q
on-ok (Ok a) f p = f p
on-ok (Err e) f p = tt
