-- Lines and entries of which some are added and some are left to be added.
use Rattle.std.proofs.Common.{◌≡◌, ℕ, ◌+◌, ◌++◌, Bool, true, false, cond, List, ap, append_assoc, sym, ◌∙◌}
use Rattle.std.proofs.Common.{refl}
use Rattle.std.proofs.lemmas.List.{append-nil}
use Rattle.std.specs.List.{flat_map}
use Rattle.causes.specs.Sources as causes
use Rattle.causes.specs.Sources.{cause_by, no_sources, only_entries, with_sources}
use Rattle.causes.specs.declared.cause.Because.{Because}
use Rattle.causes.specs.declared.cause.ScriptLine.{ScriptLine}
use Rattle.causes.specs.declared.cause.Spot.{Spot}
use Rattle.run_looks.specs.Added.{AddsSources, sources_in}
use Rattle.run_looks.specs.declared.sources.Sources.{Sources}
use Rattle.ttp_base.proofs.Below.{flat_map-next}
use Rattle.ttp_base.specs.NodeSet.{below}

-- with those that are left, all are added
pub record AddsBut (old new : Sources) (all left : causes.Sources) : Type 0 where
  pub lines : new.lines ++ left.lines ≡ old.lines ++ all.lines
  pub entries : new.entries ++ left.entries ≡ old.entries ++ all.entries

pub but-all : (old : Sources) (all : causes.Sources) → AddsBut old old all all
but-all old all = record { lines = refl; entries = refl }

-- some of them more
pub but-more : (old between new : Sources) (all left here rest : causes.Sources) → AddsBut old between all left
    → left ≡ with_sources here rest → AddsSources between new here
    → AddsBut old new all rest
but-more old between new all left here rest but is adds = record {
  lines =
      ap (λ (lines : List ScriptLine). lines ++ rest.lines) adds.lines
      ∙ append_assoc between.lines here.lines rest.lines
      ∙ ap (λ (s : causes.Sources). between.lines ++ s.lines) (sym is)
      ∙ but.lines;
  entries =
      ap (λ (entries : List Spot). entries ++ rest.entries) adds.entries
      ∙ append_assoc between.entries here.entries rest.entries
      ∙ ap (λ (s : causes.Sources). between.entries ++ s.entries) (sym is)
      ∙ but.entries;
}

-- none is left
pub but-none : (old new : Sources) (all left : causes.Sources) → AddsBut old new all left → left ≡ no_sources
    → AddsSources old new all
but-none old new all left but is = record {
  lines =
      sym (append-nil new.lines) ∙ ap (λ (s : causes.Sources). new.lines ++ s.lines) (sym is) ∙ but.lines;
  entries =
      sym (append-nil new.entries) ∙ ap (λ (s : causes.Sources). new.entries ++ s.entries) (sym is) ∙ but.entries;
}

-- Of each node, one node more.

pub adds-next : (f : ℕ → List Spot) (k : ℕ) (old between new : Sources)
    → AddsSources old between (only_entries (flat_map f (below k)))
    → AddsSources between new (only_entries (f k))
    → AddsSources old new (only_entries (flat_map f (below (k + 1))))
adds-next f k old between new before here = record {
  lines =
      here.lines ∙ append-nil between.lines ∙ before.lines;
  entries =
      here.entries ∙ ap (λ (entries : List Spot). entries ++ f k) before.entries
      ∙ append_assoc old.entries (flat_map f (below k)) (f k)
      ∙ ap (λ (entries : List Spot). old.entries ++ entries) (sym (flat_map-next f k));
}

-- Sources with the same lines and entries.
pub adds-same : (old new : Sources) (a b : causes.Sources) → a ≡ b → AddsSources old new a → AddsSources old new b
adds-same old new a b is adds = record {
  lines = adds.lines ∙ ap (λ (s : causes.Sources). old.lines ++ s.lines) is;
  entries = adds.entries ∙ ap (λ (s : causes.Sources). old.entries ++ s.entries) is;
}

-- A cause with the sources that were added to none.
pub caused : (none new : Sources) (why : Because) (all : causes.Sources) → sources_in none ≡ no_sources
    → AddsSources none new all
    → cause_by why (sources_in new) ≡ cause_by why all
caused none new why all empty adds =
    let lines = adds.lines ∙ ap (λ (s : causes.Sources). s.lines ++ all.lines) empty in
    let entries = adds.entries ∙ ap (λ (s : causes.Sources). s.entries ++ all.entries) empty in
    (λ i. cause_by why (record { lines = lines i; entries = entries i }))

-- one or the other, as an `elim` has it
pub cond-elim : (b : Bool) (first other : causes.Sources)
    → cond b first other ≡ elim b as (λ c. causes.Sources) [ true ↦ first | false ↦ other ]
cond-elim true first other = refl
cond-elim false first other = refl
