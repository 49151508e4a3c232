-- What a file's bytes give a command: a list, a script, or what is wrong with them.
use Rattle.std.specs.Prelude.{◌≡◌, ℕ, nat_lt, List, length, Result, Ok, Err, if◌then◌else◌}
use Rattle.ttp_world.specs.declared.medl.Medl.{Medl}
use Rattle.ttp_world.specs.declared.script.Script.{Script}
use Rattle.medl_text.specs.declared.error.MedlError.{MedlError}
use Rattle.medl_text.specs.ListFile.{medl_of}
use Rattle.script_text.specs.declared.error.ScriptError.{ScriptError}
use Rattle.script_text.specs.ScriptFile.{script_of}
use Rattle.commands.specs.declared.read.FileFault.{FileFault}
use Rattle.commands.specs.declared.read.FileFault.TheVariants as wrong
use Rattle.commands.specs.declared.read.Refusal.{Refusal}
use Rattle.commands.specs.declared.read.Refusal.TheVariants as refusal

-- the most bytes that a list file, a script file, and the file of a trace may have
abbrev pub list_limit : ℕ
list_limit = 1048576

abbrev pub script_limit : ℕ
script_limit = 1048576

abbrev pub trace_limit : ℕ
trace_limit = 134217728

-- A list.

-- a list, or what is wrong with its file
abbrev pub list_read : Result Medl MedlError → Result Medl FileFault
list_read (Ok list) = Ok list
list_read (Err fault) = Err (wrong.List fault)

-- the list of bytes that may be more than a limit, or what is wrong with them
abbrev pub list_within : ℕ → List ℕ → Result Medl FileFault
list_within limit bytes = if nat_lt limit (length bytes) then Err wrong.TooLarge else list_read (medl_of bytes)

-- the list that the bytes of a file are
unfoldable pub list_from : List ℕ → Result Medl FileFault
list_from bytes = list_within list_limit bytes

-- A script for a list.

-- a script, or what is wrong with its file
abbrev pub script_read : Result Script ScriptError → Result Script FileFault
script_read (Ok script) = Ok script
script_read (Err fault) = Err (wrong.Script fault)

-- the script of bytes that may be more than a limit, or what is wrong with them
abbrev pub script_within : ℕ → Medl → List ℕ → Result Script FileFault
script_within limit list bytes =
    if nat_lt limit (length bytes) then Err wrong.TooLarge else script_read (script_of list bytes)

-- the script for a list that the bytes of a file are
unfoldable pub script_from : Medl → List ℕ → Result Script FileFault
script_from list bytes = script_within script_limit list bytes

-- a refusal tells what is wrong, or that memory was refused
abbrev pub Refuses : {X : Type 0} → Result X FileFault → Refusal → Type 0
Refuses read (refusal.Told fault) = read ≡ Err fault
Refuses read refusal.Memory = Unit {0}
