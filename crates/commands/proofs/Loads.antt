-- How far in a plan a call is with what it has loaded.
use Rattle.std.proofs.Common.{◌≡◌, ℕ, List, [], ◌∷◌, Result, refl, sym, subst, inl, inr}
use Rattle.ttp_base.specs.Outside.{Output, Wrote}
use Rattle.ttp_base.proofs.Outputs.{Wrote-none}
use Rattle.ttp_world.specs.declared.medl.Medl.{Medl}
use Rattle.ttp_world.specs.declared.script.Script.{Script}
use Rattle.commands.specs.Files.{list_file, refused_list, script_file, refused_script, script_plan, both_plan}
use Rattle.commands.specs.Files.{TookBoth, TookNotBoth}
use Rattle.commands.specs.Lines.{Notice, notice, HasSaid}
use Rattle.commands.specs.Loads.{Loaded, GaveNone, Took, TookNone}
use Rattle.commands.specs.Outcome.{Says, Refused, Follows}
use Rattle.commands.specs.Plan.{Outside, outside, File, Plan, asks, line_ending, said_ending, after, read_plan}
use Rattle.commands.specs.Read.{list_from, script_from}
use Rattle.commands.specs.Texts.{Program, no_texts, Answer, alone}

-- a line that was said, under another name
pub same_said : (status : ℕ) (line text : List ℕ) (before now : Output) (answer : ℕ) → line ≡ text
    → HasSaid (notice status line) before now answer → HasSaid (notice status text) before now answer
same_said status line text before now answer same told =
    subst (λ (t : List ℕ). HasSaid (notice status t) before now answer) same told

module _ (p : Program) where
  -- A call came so far in a plan: whatever it does from here on, if it follows what is left, it followed the plan.
  abbrev pub CameTo : Plan p.Sets → Outside → Plan p.Sets → Outside → Type 0
  CameTo plan before rest now =
      (later : Outside) (answer : Answer p.Kept) → Follows p rest now later answer → Follows p plan before later answer

  pub said : (notice : Notice) (before now : Output) (status : ℕ) → HasSaid notice before now status
      → Says p (said_ending notice) before now (alone status)
  said notice before now status (inl wrote) =
      inl (record {
        status = wrote.0;
        text = record { lines = notice.line ∷ []; among = refl; wrote = wrote.1 };
        kept = refl;
      })
  said notice before now status (inr cut) =
      inr (record {
        status = cut.0;
        text = record { lines = notice.line ∷ []; among = refl; cut = cut.1 };
        none = refl;
      })

  pub said_as : (status : ℕ) (line text : List ℕ) (before now : Output) (answer : ℕ) → line ≡ text
      → HasSaid (notice status line) before now answer → Says p (line_ending status text) before now (alone answer)
  said_as status line text before now answer same told =
      said (notice status text) before now answer (same_said status line text before now answer same told)

  silent : (before now : Output) (status : ℕ) → status ≡ 7 → now ≡ before
      → Refused p no_texts before now (alone status)
  silent before now status seven same = record {
    status = seven;
    text = record {
      lines = [];
      among = refl;
      wrote = subst (λ (o : Output). Wrote before o []) (sym same) (Wrote-none before);
    };
    none = refl;
  }

  -- a file gave its bytes, or none

  pub bytes_came : (file : File) (next : List ℕ → Plan p.Sets) (before now : Outside) (bytes : List ℕ)
      → Loaded file before now bytes → CameTo (asks file next) before (next bytes) now
  bytes_came file next before now bytes l = λ later answer follows.
      inl (
        bytes,
        (
          now.files,
          (
            l.asked,
            l.gives,
            subst (λ (o : Output). Follows p (next bytes) (outside now.files o) later answer) l.silent follows,
          ),
        ),
      )

  pub no_bytes : (file : File) (next : List ℕ → Plan p.Sets) (before now : Outside) (status : ℕ)
      → GaveNone file before now status → Follows p (asks file next) before now (alone status)
  no_bytes file next before now status (inl failed) =
      inr (inl (failed.0, said _ before.output now.output status failed.1))
  no_bytes file next before now status (inr wants) =
      inr (inr (wants.0, silent before.output now.output status wants.1.0 wants.1.1))

  -- it was read as a value, or not

  module _ {X F : Type 0} (file : File) (read : List ℕ → Result X F) (refused : F → Notice) (next : X → Plan p.Sets)
      (before now : Outside) where
    pub value_came : (value : X) → Took file read before now value
        → CameTo (read_plan file read refused next) before (next value) now
    value_came value t = λ later answer follows.
        bytes_came file (λ bytes. after refused next (read bytes)) before now t.bytes t.loaded later answer
        (subst (λ (r : Result X F). Follows p (after refused next r) now later answer) (sym t.taken) follows)

    pub no_value : (status : ℕ) → TookNone file read refused before now status
        → Follows p (read_plan file read refused next) before now (alone status)
    no_value status (inl none) = no_bytes file (λ bytes. after refused next (read bytes)) before now status none
    no_value status (inr d) =
        let told = said (refused d.fault) before.output now.output status d.said in
        inl (
          d.bytes,
          (
            now.files,
            (
              d.asked,
              d.gives,
              subst (λ (r : Result X F).
                  Follows p (after refused next r) (outside now.files before.output) now (alone status))
                  (sym d.wrong) (refl, inl told),
            ),
          ),
        )

  -- a list and a script

  module _ (list script : List ℕ) (next : Medl → Script → Plan p.Sets) (before now : Outside) where
    abbrev from_list : Medl → Plan p.Sets
    from_list medl = script_plan medl script (next medl)

    pub pair_came : (medl : Medl) (right : Script) → TookBoth list script before now medl right
        → CameTo (both_plan list script next) before (next medl right) now
    pair_came medl right t = λ later answer follows.
        value_came (list_file list) list_from refused_list from_list before t.between medl t.first later answer
        (value_came (script_file script) (script_from medl) refused_script
        (next medl) t.between now right t.second later
        answer follows)

    pub no_pair : (status : ℕ) → TookNotBoth list script before now status
        → Follows p (both_plan list script next) before now (alone status)
    no_pair status (inl none) = no_value (list_file list) list_from refused_list from_list before now status none
    no_pair status (inr t) =
        value_came (list_file list) list_from refused_list from_list before t.between t.medl t.first now (alone status)
        (no_value (script_file script) (script_from t.medl) refused_script (next t.medl) t.between now status t.second)
