-- A plan that asks for a list, and for a script, and where it comes to by right ones.
use Rattle.std.proofs.Common.{◌≡◌, ℕ, ◌≤◌, List, [], ◌∷◌, Result, Ok, Err, refl, ap, arith}
use Rattle.ttp_base.specs.Outside.{Held, Load, Gives}
use Rattle.ttp_world.specs.declared.medl.Medl.{Medl}
use Rattle.ttp_world.specs.declared.script.Script.{Script}
use Rattle.commands.specs.declared.read.FileFault.{FileFault}
use Rattle.commands.specs.Files.{refused_list, list_plan, refused_script, script_plan, both_plan}
use Rattle.commands.specs.Plan.{Outside, Ending, Plan, ends, said_ending, after, Comes, told_ending}
use Rattle.commands.specs.Read.{list_limit, list_from, script_limit, script_from}
use Rattle.commands.specs.Right.{MayBe, AreRight, AreTold}
use Rattle.commands.proofs.Fronts.{list_from-front, script_from-front}
use Rattle.commands.proofs.Plans.{AllAsk, both_every, end_comes}
use Rattle.commands.proofs.Right.{IsRight, right_list, right_script, may_be, list_from-right, script_from-right}

-- the right list behind which an ending comes
pub record CameList {Sets : Type 0} (held : List ℕ → Held) (list : List ℕ) (next : Medl → Plan Sets)
    (ending : Ending Sets) : Type 0 where
  pub bytes : List ℕ
  pub medl : Medl
  pub list_file : MayBe (held list) bytes
  pub right : IsRight bytes medl
  pub loads : List Load
  pub comes : Comes held (next medl) loads (ends ending)

-- the right list and the right script behind which one does
pub record CameBoth {Sets : Type 0} (held : List ℕ → Held) (list script : List ℕ) (next : Medl → Script → Plan Sets)
    (ending : Ending Sets) : Type 0 where
  pub bytes : List ℕ
  pub script_bytes : List ℕ
  pub medl : Medl
  pub right : Script
  pub list_file : MayBe (held list) bytes
  pub script_file : MayBe (held script) script_bytes
  pub are : AreRight bytes script_bytes medl right
  pub loads : List Load
  pub comes : Comes held (next medl right) loads (ends ending)

-- an ending that refuses neither file comes behind them
module _ {Sets : Type 0} (held : List ℕ → Held) (ending : Ending Sets) (taken : ending.status ≤ 2) where
  refused_none : (fault : Ending Sets) → 3 ≤ fault.status → (loads : List Load)
      → Comes held (ends fault) loads (ends ending) → ⊥
  refused_none fault large loads comes =
      omega (arith, taken, large, ap (λ (e : Ending Sets). e.status) (end_comes held loads fault ending comes))

  from_list : (list : List ℕ) (next : Medl → Plan Sets) (bytes : List ℕ) (read : Result Medl FileFault)
      (loads : List Load) → list_from bytes ≡ read → Comes held (after refused_list next read) loads (ends ending)
      → Gives (held list) list_limit bytes → CameList held list next ending
  from_list list next bytes (Ok medl) loads is comes gives =
      let right = right_list bytes medl is in
      record {
        bytes = bytes;
        medl = medl;
        list_file = may_be (held list) list_limit bytes gives right.size;
        right = right;
        loads = loads;
        comes = comes;
      }
  from_list list next bytes (Err fault) loads is comes gives =
      absurd (refused_none (said_ending (refused_list fault)) (omega arith) loads comes)

  pub list_came : (list : List ℕ) (next : Medl → Plan Sets) (loads : List Load)
      → Comes held (list_plan list next) loads (ends ending) → CameList held list next ending
  list_came list next [] comes = absurd (cc)
  list_came list next (load ∷ loads) comes =
      from_list list next comes.1.0 (list_from comes.1.0) loads refl comes.1.2 comes.1.1

  module _ (list script : List ℕ) (next : Medl → Script → Plan Sets) where
    from_script : (l : CameList held list (λ medl. script_plan medl script (next medl)) ending) (bytes : List ℕ)
        (read : Result Script FileFault) (loads : List Load) → script_from l.medl bytes ≡ read
        → Comes held (after refused_script (next l.medl) read) loads (ends ending)
        → Gives (held script) script_limit bytes → CameBoth held list script next ending
    from_script l bytes (Ok right) loads is comes gives =
        let are = right_script l.bytes bytes l.medl right l.right is in
        record {
          bytes = l.bytes;
          script_bytes = bytes;
          medl = l.medl;
          right = right;
          list_file = l.list_file;
          script_file = may_be (held script) script_limit bytes gives are.script_size;
          are = are;
          loads = loads;
          comes = comes;
        }
    from_script l bytes (Err fault) loads is comes gives =
        absurd (refused_none (said_ending (refused_script fault)) (omega arith) loads comes)

    behind_list : (l : CameList held list (λ medl. script_plan medl script (next medl)) ending) (loads : List Load)
        → Comes held (script_plan l.medl script (next l.medl)) loads (ends ending)
        → CameBoth held list script next ending
    behind_list l [] comes = absurd (cc)
    behind_list l (load ∷ loads) comes =
        from_script l comes.1.0 (script_from l.medl comes.1.0) loads refl comes.1.2 comes.1.1

    pub both_came : (loads : List Load) → Comes held (both_plan list script next) loads (ends ending)
        → CameBoth held list script next ending
    both_came loads comes =
        let l = list_came list (λ medl. script_plan medl script (next medl)) loads comes in
        behind_list l l.loads l.comes

-- right files that are told come to what is next
pub both_told : {Sets : Type 0} (list script : List ℕ)
    (next : Medl → Script → Plan Sets) (before now : Outside) (medl : Medl)
    (right : Script) → AreTold list script before now medl right
    → told_ending before.files.held (both_plan list script next) ≡ told_ending before.files.held (next medl right)
both_told list script next before now medl right files =
    let taken = list_from-right files.bytes medl files.are.size files.are.list in
    let script_taken = script_from-right medl files.script_bytes right files.are.script_size files.are.script in
    rw (
      files.list_file,
      list_from-front files.bytes,
      taken,
      files.script_file,
      script_from-front medl files.script_bytes,
      script_taken,
    ) refl

-- The names that such a plan asks for.
pub both_ask : {Sets : Type 0} (Q : List ℕ → Type 0) (list script : List ℕ) (next : Medl → Script → Plan Sets) → Q list
    → Q script → ((medl : Medl) (right : Script) → AllAsk Q (next medl right)) → AllAsk Q (both_plan list script next)
both_ask Q list script next of_list of_script all =
    both_every (λ ending. Unit {0}) (λ file. Q file.name) list script next of_list of_script (λ fault. tt) (λ fault. tt)
    all
