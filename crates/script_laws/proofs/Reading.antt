-- Lines that are read one after another.
use Rattle.std.proofs.Common.{◌≡◌, ℕ, suc, List, [], ◌∷◌, ◌++◌, refl, ap, ◌∙◌}
use Rattle.std.specs.List.{concat}
use Rattle.std.proofs.lemmas.List.{append_assoc}
use Rattle.std.proofs.lemmas.List.Folds.{concat-append}
use Rattle.ttp_base.specs.Text.{Lines, newline}
use Rattle.ttp_world.specs.declared.medl.Medl.{Medl}
use Rattle.script_text.specs.Lines.{lines_of_file}
use Rattle.script_text.specs.ScriptFile.{script_faults, statements_of}
use Rattle.script_text.specs.Statement.{Statement}
use Rattle.script_laws.proofs.Lines.{line_then}
use Rattle.script_laws.proofs.Statements.{IsLine}

-- a text has no fault after some statements, and takes them to others, whatever follows it
pub record Reads (list : Medl) (before : List Statement) (text : Lines) (after : List Statement) : Type 0 where
  pub faults : (number : ℕ) (rest : List ℕ) → ((m : ℕ) → script_faults list m after (lines_of_file rest) ≡ [])
      → script_faults list number before (lines_of_file (concat text ++ rest)) ≡ []
  pub said : (rest : List ℕ)
      → statements_of before (lines_of_file (concat text ++ rest)) ≡ statements_of after (lines_of_file rest)

pub reads_none : (list : Medl) (before : List Statement) → Reads list before [] before
reads_none list before = record { faults = λ number rest more. more number; said = λ rest. refl }

one_more : (w rest : List ℕ) (text : Lines) → concat ((w ++ newline) ∷ text) ++ rest ≡ w ++ 10 ∷ (concat text ++ rest)
one_more w rest text = simp append_assoc

pub reads_more : (list : Medl) (before after : List Statement) (w : List ℕ) (text : Lines) (s : Statement)
    → IsLine list before w s → Reads list (s ∷ before) text after → Reads list before ((w ++ newline) ∷ text) after
reads_more list before after w text s is tail =
    let cut : (rest : List ℕ)
    → lines_of_file (concat ((w ++ newline) ∷ text) ++ rest) ≡ w ∷ lines_of_file (concat text ++ rest) =
    λ rest. ap lines_of_file (one_more w rest text) ∙ line_then w (concat text ++ rest) is.feeds is.returns in
    record {
      faults = λ number rest more.
          ap (script_faults list number before) (cut rest)
          ∙ rw (is.read.faults, is.read.after) (tail.faults (suc number) rest more);
      said = λ rest.
          ap (statements_of before) (cut rest)
          ∙ ap (λ (b : List Statement). statements_of b (lines_of_file (concat text ++ rest)))
          is.read.after ∙ tail.said rest;
    }

joined : (x y : Lines) (rest : List ℕ) → concat (x ++ y) ++ rest ≡ concat x ++ (concat y ++ rest)
joined x y rest = ap (λ (t : List ℕ). t ++ rest) (concat-append x y) ∙ append_assoc (concat x) (concat y) rest

pub reads_then : (list : Medl) (before between after : List Statement) (x y : Lines) → Reads list before x between
    → Reads list between y after → Reads list before (x ++ y) after
reads_then list before between after x y p q = record {
  faults = λ number rest more.
      ap (λ (t : List ℕ). script_faults list number before (lines_of_file t)) (joined x y rest)
      ∙ p.faults number (concat y ++ rest) (λ m. q.faults m rest more);
  said = λ rest.
      ap (λ (t : List ℕ). statements_of before (lines_of_file t)) (joined x y rest)
      ∙ p.said (concat y ++ rest) ∙ q.said rest;
}
