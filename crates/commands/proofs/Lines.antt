-- Each piece that a call gives is one line.
use Rattle.std.proofs.Common.{◌≡◌, ◌≤◌, ℕ, List, [], ◌∷◌, ◌++◌, true, refl, subst, sym, arith}
use Rattle.std.specs.Prelude.{codes}
use Rattle.ttp_base.specs.Text.{Lines, is_line}
use Rattle.commands.specs.declared.read.FileFault.{FileFault}
use Rattle.commands.specs.Faults.{file_fault_line}
use Rattle.commands.specs.Files.{refused_list, refused_script}
use Rattle.commands.specs.Lines.{AreLines}
use Rattle.commands.specs.Plan.{Ending, File, said_ending, line_ending}
use Rattle.commands.specs.Texts.{Program, Texts, one, IsAmong}
use Rattle.commands.proofs.FaultLines.{fault_line-is_line}

-- each of some texts is made of lines
abbrev pub AreOfLines : (p : Program) → Texts p.Sets → Type 0
AreOfLines p texts = (lines : Lines) → IsAmong p texts lines → AreLines lines

-- an ending of a plan has a status up to 4, and each of its texts is made of lines
pub record IsFinal (p : Program) (ending : Ending p.Sets) : Type 0 where
  pub status : ending.status ≤ 4
  pub texts : AreOfLines p ending.texts
  pub unfinished : AreOfLines p ending.unfinished

-- and what is said of a file that could not be loaded is a line
abbrev pub SaysLine : File → Type 0
SaysLine file = is_line file.missing ≡ true

pub one_text : (p : Program) (text : Lines) → AreLines text → AreOfLines p (one text)
one_text p text are = λ lines among. subst AreLines (sym among) are

-- the first ones of lines
pub lines_front : (x y : Lines) → AreLines (x ++ y) → AreLines x
lines_front [] y are = tt
lines_front (line ∷ x) y are = (are.0, lines_front x y are.1)

-- an ending with one text that is made of lines
pub text_final : (p : Program) (status : ℕ) (text : Lines) → status ≤ 4 → AreLines text
    → IsFinal p (record { status = status; texts = one text; unfinished = one [] })
text_final p status text few are =
    record { status = few; texts = one_text p text are; unfinished = one_text p [] tt }

pub line_final : (p : Program) (status : ℕ) (line : List ℕ) → status ≤ 4 → is_line line ≡ true
    → IsFinal p (line_ending status line)
line_final p status line few is = text_final p status (line ∷ []) few (is, tt)

pub refused_list-final : (p : Program) (fault : FileFault) → IsFinal p (said_ending (refused_list fault))
refused_list-final p fault =
    line_final p 3 (file_fault_line (codes "list") fault) (omega arith) (fault_line-is_line (codes "list") fault refl)

pub refused_script-final : (p : Program) (fault : FileFault) → IsFinal p (said_ending (refused_script fault))
refused_script-final p fault =
    line_final p 4 (file_fault_line (codes "script") fault) (omega arith)
    (fault_line-is_line (codes "script") fault refl)
