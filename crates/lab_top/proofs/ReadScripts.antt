-- How far in a plan a call is that keeps the bytes of the script that it has loaded.
use Rattle.std.proofs.Common.{◌≡◌, ℕ, List, Result, Ok, refl, sym, subst, inl, inr}
use Rattle.ttp_world.specs.declared.medl.Medl.{Medl}
use Rattle.ttp_world.specs.declared.script.Script.{Script}
use Rattle.commands.specs.declared.read.FileFault.{FileFault}
use Rattle.commands.specs.Files.{refused_script, script_file}
use Rattle.commands.specs.Loads.{Loaded, TookNone}
use Rattle.commands.specs.Outcome.{Follows}
use Rattle.commands.specs.Plan.{Outside, outside, after}
use Rattle.commands.specs.Read.{script_from}
use Rattle.commands.specs.Texts.{alone}
use Rattle.lab_top.proofs.FromBelow.{CameTo, bytes_came, no_bytes, said}
use Rattle.lab_top.specs.Texts.{LabPlan, ttplab}
use Rattle.lab_top.specs.Why.{read_script_plan}

module _ (script : List ℕ) (next : List ℕ → Script → LabPlan) (list : Medl) (before now : Outside) where
  abbrev by_bytes : List ℕ → Result Script FileFault → LabPlan
  by_bytes bytes read = after refused_script (next bytes) read

  pub script_came : (bytes : List ℕ) (right : Script) → Loaded (script_file script) before now bytes
      → script_from list bytes ≡ Ok right
      → CameTo ttplab (read_script_plan script next list) before (next bytes right) now
  script_came bytes right loaded taken = λ later answer follows.
      bytes_came ttplab (script_file script) (λ b. by_bytes b (script_from list b)) before now bytes loaded later answer
      (subst (λ (r : Result Script FileFault). Follows ttplab (by_bytes bytes r) now later answer) (sym taken) follows)

  pub no_script : (status : ℕ) → TookNone (script_file script) (script_from list) refused_script before now status
      → Follows ttplab (read_script_plan script next list) before now (alone status)
  no_script status (inl none) =
      no_bytes ttplab (script_file script) (λ b. by_bytes b (script_from list b)) before now status none
  no_script status (inr d) =
      let told = said ttplab (refused_script d.fault) before.output now.output status d.said in
      inl (
        d.bytes,
        (
          now.files,
          (
            d.asked,
            d.gives,
            subst
                (λ (r : Result Script FileFault).
                Follows ttplab (by_bytes d.bytes r) (outside now.files before.output) now (alone status))
                (sym d.wrong) (refl, inl told),
          ),
        ),
      )
