-- The files that commands ask for, what is said of those that are refused, and how a command goes on with them.
use Rattle.std.specs.Prelude.{◌⊎◌, ℕ, List, codes}
use Rattle.ttp_world.specs.declared.medl.Medl.{Medl}
use Rattle.ttp_world.specs.declared.script.Script.{Script}
use Rattle.commands.specs.declared.read.FileFault.{FileFault}
use Rattle.commands.specs.Faults.{file_fault_line}
use Rattle.commands.specs.Lines.{Notice, notice}
use Rattle.commands.specs.Loads.{Took, TookNone}
use Rattle.commands.specs.Plan.{Outside, File, Plan, asks, read_plan}
use Rattle.commands.specs.Read.{list_limit, list_from, script_limit, script_from, trace_limit}

-- A list.

-- the file of a list, by its name, with its limit and the line of one that is not loaded
abbrev pub list_file : List ℕ → File
list_file name = record { name = name; limit = list_limit; missing = codes "load: list\n" }

-- the notice on a list that is refused: status 3 and a line
abbrev pub refused_list : FileFault → Notice
refused_list fault = notice 3 (file_fault_line (codes "list") fault)

-- a command that asks for a list and goes on by it
abbrev pub list_plan : {Sets : Type 0} → List ℕ → (Medl → Plan Sets) → Plan Sets
list_plan name next = read_plan (list_file name) list_from refused_list next

-- A script for a list.

-- the file of a script
abbrev pub script_file : List ℕ → File
script_file name = record { name = name; limit = script_limit; missing = codes "load: script\n" }

-- the notice on a script that is refused: status 4 and a line
abbrev pub refused_script : FileFault → Notice
refused_script fault = notice 4 (file_fault_line (codes "script") fault)

-- a command that asks for a script for a list and goes on by it
abbrev pub script_plan : {Sets : Type 0} → Medl → List ℕ → (Script → Plan Sets) → Plan Sets
script_plan list name next = read_plan (script_file name) (script_from list) refused_script next

-- a list, and then a script for it
abbrev pub both_plan : {Sets : Type 0} → List ℕ → List ℕ → (Medl → Script → Plan Sets) → Plan Sets
both_plan list script next = list_plan list (λ medl. script_plan medl script (next medl))

-- A text that may be a trace.

-- the file of a text that may be a trace
abbrev pub trace_file : List ℕ → File
trace_file name = record { name = name; limit = trace_limit; missing = codes "load: trace\n" }

-- a command that asks for such a text and goes on by its first bytes
abbrev pub trace_plan : {Sets : Type 0} → List ℕ → (List ℕ → Plan Sets) → Plan Sets
trace_plan name next = asks (trace_file name) next

-- What a call has of them.

-- a call has loaded this list
abbrev pub TookList : List ℕ → Outside → Outside → Medl → Type 0
TookList name before now list = Took (list_file name) list_from before now list

-- a call has got no list, and ends with this status
abbrev pub TookNoList : List ℕ → Outside → Outside → ℕ → Type 0
TookNoList name before now status = TookNone (list_file name) list_from refused_list before now status

-- a call has loaded this script
abbrev pub TookScript : Medl → List ℕ → Outside → Outside → Script → Type 0
TookScript list name before now script = Took (script_file name) (script_from list) before now script

-- a call has got no script, and ends with this status
abbrev pub TookNoScript : Medl → List ℕ → Outside → Outside → ℕ → Type 0
TookNoScript list name before now status =
    TookNone (script_file name) (script_from list) refused_script before now status

-- the list, and then the script for it
pub record TookBoth (list script : List ℕ) (before now : Outside) (medl : Medl) (right : Script) : Type 0 where
  pub between : Outside
  pub first : TookList list before between medl
  pub second : TookScript medl script between now right

-- the list, and then no script for it
pub record TookFirst (list script : List ℕ) (before now : Outside) (status : ℕ) : Type 0 where
  pub between : Outside
  pub medl : Medl
  pub first : TookList list before between medl
  pub second : TookNoScript medl script between now status

-- a call has not got both, and ends with this status
abbrev pub TookNotBoth : List ℕ → List ℕ → Outside → Outside → ℕ → Type 0
TookNotBoth list script before now status =
    TookNoList list before now status ⊎ TookFirst list script before now status
