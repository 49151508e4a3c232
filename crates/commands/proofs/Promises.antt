-- The promise of a call, from the plan that it followed.
use Rattle.std.proofs.Common.{◌≡◌, ◌⊎◌, ℕ, ◌≤◌, List, [], ◌∷◌, ◌++◌, Some, None, refl, ap, sym, subst, ◌∙◌}
use Rattle.std.proofs.Common.{inl, inr, append_assoc, append-nil, arith}
use Rattle.ttp_base.specs.Outside.{Held, Load, Files, Gives, HasRisen, NoneRose, NoneFell, HoldsTheSame}
use Rattle.ttp_base.specs.Outside.{Output, Wrote}
use Rattle.commands.specs.Lines.{AreLines, GaveLines}
use Rattle.commands.specs.Outcome.{Showed, Refused, Says, ShowsEnding, Asked, Follows}
use Rattle.commands.specs.Plan.{Outside, outside, Ending, File, Plan, ends, asks, load_of, unloaded}
use Rattle.commands.specs.Plan.{Comes, AsksFirst, told_ending}
use Rattle.commands.specs.Promise.{Reached, Unloaded, IsDue, IsUnfinished, EachName, NoneAskedRose, Promise}
use Rattle.commands.specs.Texts.{Program, no_texts, IsKeptBeside, WroteAmong, CutAmong, Answer}
use Rattle.commands.proofs.Lines.{AreOfLines, IsFinal, SaysLine, one_text, lines_front}
use Rattle.commands.proofs.Plans.{Every, all_come, file_comes, told_comes}

none_rose_then : (a b c : Files) → NoneRose a b → NoneRose b c → NoneRose a c
none_rose_then a b c p q = record { names = λ name. q.names name ∙ p.names name; all = q.all ∙ p.all }

none_fell_after : (a b c : Files) → NoneRose a b → NoneFell b c → NoneFell a c
none_fell_after a b c p q = record {
  names = λ name. subst (λ n. n ≤ c.faults name) (p.names name) (q.names name);
  all = subst (λ n. n ≤ c.all_faults) p.all q.all;
}

none_fell : (a b : Files) → NoneRose a b → NoneFell a b
none_fell a b quiet = record { names = λ name. omega (arith, quiet.names name); all = omega (arith, quiet.all) }

none_rose_same : (a b : Files) → b ≡ a → NoneRose a b
none_rose_same a b same = record {
  names = λ name. ap (λ (f : Files). f.faults name) same;
  all = ap (λ (f : Files). f.all_faults) same;
}

same_then : (a b c : Files) → HoldsTheSame a b → HoldsTheSame b c → HoldsTheSame a c
same_then a b c p q = record {
  held = λ name. q.held name ∙ p.held name;
  sure = λ name. q.sure name ∙ p.sure name;
  calm = λ name is. q.calm name (p.sure name ∙ is) ∙ p.calm name is;
}

same_files : (a b : Files) → b ≡ a → HoldsTheSame a b
same_files a b same = record {
  held = λ name. ap (λ (f : Files). f.held name) same;
  sure = λ name. ap (λ (f : Files). f.sure name) same;
  calm = λ name is. ap (λ (f : Files). f.faults name) same;
}

-- what may be given before is given after, where the library holds the same
comes_held : {Sets : Type 0} (held later : List ℕ → Held) → ((name : List ℕ) → later name ≡ held name)
    → (plan : Plan Sets) (loads : List Load) (rest : Plan Sets)
    → Comes later plan loads rest → Comes held plan loads rest
comes_held held later same plan [] rest comes = comes
comes_held held later same (ends ending) (load ∷ loads) rest comes = absurd comes
comes_held held later same (asks file next) (load ∷ loads) rest comes = (
  comes.0,
  (
    comes.1.0,
    subst (λ (h : Held). Gives h file.limit comes.1.0) (same file.name) comes.1.1,
    comes_held held later same (next comes.1.0) loads rest comes.1.2,
  ),
)

asks_held : {Sets : Type 0} (held later : List ℕ → Held) → ((name : List ℕ) → later name ≡ held name)
    → (plan : Plan Sets) (loads : List Load)
    → AsksFirst later plan loads → AsksFirst held plan loads
asks_held held later same plan [] asked = tt
asks_held held later same (ends ending) (load ∷ loads) asked = absurd asked
asks_held held later same (asks file next) (load ∷ []) asked = asked
asks_held held later same (asks file next) (load ∷ (other ∷ loads)) asked = (
  asked.0,
  (
    asked.1.0,
    subst (λ (h : Held). Gives h file.limit asked.1.0) (same file.name) asked.1.1,
    asks_held held later same (next asked.1.0) (other ∷ loads) asked.1.2,
  ),
)

-- one load more before the loads of what follows
asks_more : {Sets : Type 0} (held : List ℕ → Held) (file : File)
    (next : List ℕ → Plan Sets) (bytes : List ℕ) (loads : List Load)
    → Gives (held file.name) file.limit bytes → AsksFirst held (next bytes) loads
    → AsksFirst held (asks file next) (load_of file ∷ loads)
asks_more held file next bytes [] gives rest = refl
asks_more held file next bytes (other ∷ loads) gives rest = (refl, (bytes, gives, rest))

abbrev Ways : ℕ → Type 0 → Type 0 → Type 0 → Type 0 → Type 0
Ways answer A B C D = ((answer ≤ 4) × A) ⊎ (((answer ≡ 5) × B) ⊎ (((answer ≡ 6) × C) ⊎ ((answer ≡ 7) × D)))

up_to_4 : {A B C D : Type 0} (answer : ℕ) → Ways answer A B C D → answer ≤ 4 → A
up_to_4 answer (inl a) few = a.1
up_to_4 answer (inr (inl b)) few = absurd (omega (arith, b.0))
up_to_4 answer (inr (inr (inl c))) few = absurd (omega (arith, c.0))
up_to_4 answer (inr (inr (inr d))) few = absurd (omega (arith, d.0))

at_5 : {A B C D : Type 0} (answer : ℕ) → Ways answer A B C D → answer ≡ 5 → B
at_5 answer (inl a) five = absurd (omega (arith, a.0))
at_5 answer (inr (inl b)) five = b.1
at_5 answer (inr (inr (inl c))) five = absurd (omega (arith, c.0))
at_5 answer (inr (inr (inr d))) five = absurd (omega (arith, d.0))

at_6 : {A B C D : Type 0} (answer : ℕ) → Ways answer A B C D → answer ≡ 6 → C
at_6 answer (inl a) six = absurd (omega (arith, a.0))
at_6 answer (inr (inl b)) six = absurd (omega (arith, b.0))
at_6 answer (inr (inr (inl c))) six = c.1
at_6 answer (inr (inr (inr d))) six = absurd (omega (arith, d.0))

at_7 : {A B C D : Type 0} (answer : ℕ) → Ways answer A B C D → answer ≡ 7 → D
at_7 answer (inl a) seven = absurd (omega (arith, a.0))
at_7 answer (inr (inl b)) seven = absurd (omega (arith, b.0))
at_7 answer (inr (inr (inl c))) seven = absurd (omega (arith, c.0))
at_7 answer (inr (inr (inr d))) seven = d.1

up_to_7 : {A B C D : Type 0} (answer : ℕ) → Ways answer A B C D → answer ≤ 7
up_to_7 answer (inl a) = omega (arith, a.0)
up_to_7 answer (inr (inl b)) = omega (arith, b.0)
up_to_7 answer (inr (inr (inl c))) = omega (arith, c.0)
up_to_7 answer (inr (inr (inr d))) = omega (arith, d.0)

pub each_last : (P : List ℕ → Type 0) (loads : List Load) (load : Load) → EachName P (loads ++ load ∷ [])
    → P load.name
each_last P [] load each = each.0
each_last P (other ∷ loads) load each = each_last P loads load each.1

module _ (p : Program) where
  -- how it ended after these loads
  pub record Ended (plan : Plan p.Sets) (before now : Outside) (answer : Answer p.Kept) : Type 0 where
    pub loads : List Load
    pub asked : now.files.loads ≡ before.files.loads ++ loads
    pub in_order : AsksFirst before.files.held plan loads
    pub keeps : HoldsTheSame before.files now.files
    pub count : NoneFell before.files now.files
    pub how : ((ending : Ending p.Sets) × Reached plan before now loads ending
        × ShowsEnding p ending before.output now.output answer)
        ⊎ (((ending : Ending p.Sets) × Unloaded plan before now loads ending
        × Says p ending before.output now.output answer)
        ⊎ (NoneRose before.files now.files × Refused p no_texts before.output now.output answer))

  -- a call that went on by a file's bytes
  goes_on : (file : File) (next : List ℕ → Plan p.Sets) (before now : Outside)
      (answer : Answer p.Kept) (bytes : List ℕ) (files : Files)
      → Asked file before.files files → Gives (before.files.held file.name) file.limit bytes
      → Ended (next bytes) (outside files before.output) now answer → Ended (asks file next) before now answer
  goes_on file next before now answer bytes files one gives rest =
      let held = before.files.held in
      let loads = load_of file ∷ rest.loads in
      record {
        loads = loads;
        asked =
            rest.asked ∙ ap (λ (l : List Load). l ++ rest.loads) one.load
            ∙ append_assoc before.files.loads (load_of file ∷ []) rest.loads;
        in_order =
            asks_more held file next bytes rest.loads gives
            (asks_held held files.held one.keeps.held (next bytes) rest.loads rest.in_order);
        keeps = same_then before.files files now.files one.keeps rest.keeps;
        count = none_fell_after before.files files now.files one.quiet rest.count;
        how =
            elim rest.how [
              | inl r ↦
                  let later = comes_held held files.held one.keeps.held (next bytes) rest.loads (ends r.0) r.1.comes in
                  let quiet = none_rose_then before.files files now.files one.quiet r.1.quiet in
                  inl (r.0, record { comes = (refl, (bytes, gives, later)); quiet = quiet }, r.2)
              | inr other ↦
                  elim other [
                    | inl u ↦ inr (inl (
                      u.0,
                      record {
                        earlier = load_of file ∷ u.1.earlier;
                        file = u.1.file;
                        next = u.1.next;
                        comes = (
                          refl,
                          (
                            bytes,
                            gives,
                            comes_held held files.held one.keeps.held (next bytes) u.1.earlier (asks u.1.file u.1.next)
                                u.1.comes,
                          ),
                        );
                        last = ap (λ (l : List Load). load_of file ∷ l) u.1.last;
                        risen =
                            subst (λ n. HasRisen n (now.files.faults u.1.file.name))
                            (one.quiet.names u.1.file.name) u.1.risen;
                        line = u.1.line;
                      },
                      u.2,
                    ))
                    | inr m ↦ inr (inr (none_rose_then before.files files now.files one.quiet m.0, m.1))
                  ]
            ];
      }

  pub ended : (plan : Plan p.Sets) (before now : Outside) (answer : Answer p.Kept) → Follows p plan before now answer
      → Ended plan before now answer
  ended (ends ending) before now answer follows =
      let same = follows.0 in
      record {
        loads = [];
        asked = ap (λ (f : Files). f.loads) same ∙ sym (append-nil before.files.loads);
        in_order = tt;
        keeps = same_files before.files now.files same;
        count = none_fell before.files now.files (none_rose_same before.files now.files same);
        how = inl (ending, record { comes = refl; quiet = none_rose_same before.files now.files same }, follows.1);
      }
  ended (asks file next) before now answer (inl goes) =
      goes_on file next before now answer goes.0 goes.1.0 goes.1.1.0 goes.1.1.1
      (ended (next goes.0) (outside goes.1.0 before.output) now answer goes.1.1.2)
  ended (asks file next) before now answer (inr (inl fails)) = record {
    loads = load_of file ∷ [];
    asked = fails.0.load;
    in_order = refl;
    keeps = fails.0.keeps;
    count = fails.0.count;
    how =
        inr (inl (
          unloaded file,
          record {
            earlier = [];
            file = file;
            next = next;
            comes = refl;
            last = refl;
            risen = fails.0.risen;
            line = refl;
          },
          fails.1,
        ));
  }
  ended (asks file next) before now answer (inr (inr wants)) = record {
    loads = load_of file ∷ [];
    asked = wants.0.load;
    in_order = refl;
    keeps = wants.0.keeps;
    count = none_fell before.files now.files wants.0.quiet;
    how = inr (inr (wants.0.quiet, wants.1));
  }

  abbrev CallWays : Plan p.Sets → Outside → Outside → List Load → Answer p.Kept → Type 0
  CallWays plan before now loads answer =
      Ways answer.status
      ((ending : Ending p.Sets) × Reached plan before now loads ending
      × Showed p ending before.output now.output answer)
      ((ending : Ending p.Sets) × Unloaded plan before now loads ending
      × Showed p ending before.output now.output answer)
      ((answer.kept ≡ None)
      × ((ending : Ending p.Sets) × IsDue plan before now loads ending
      × CutAmong p ending.texts before.output now.output))
      ((answer.kept ≡ None) × (NoneRose before.files now.files × IsUnfinished p plan before now loads))

  -- a text without lines
  pub wrote_nothing : (before now : Output) → WroteAmong p no_texts before now → Wrote before now []
  wrote_nothing before now w = subst (Wrote before now) w.among w.wrote

  ways : (plan : Plan p.Sets) (before now : Outside) (answer : Answer p.Kept)
      → Every (IsFinal p) SaysLine plan → (e : Ended plan before now answer)
      → CallWays plan before now e.loads answer
  ways plan before now answer all e =
      elim e.how [
        | inl r ↦
            elim r.2 [
              | inl says ↦
                  elim says [
                    | inl showed ↦
                        let final = all_come (IsFinal p) SaysLine before.files.held plan e.loads r.0 all r.1.comes in
                        inl (omega (arith, showed.status, final.status), (r.0, r.1, showed))
                    | inr stopped ↦
                        inr (inr (inl (stopped.status, (stopped.none, (r.0, inl r.1, stopped.text)))))
                  ]
              | inr refused ↦
                  inr (inr (inr (
                    refused.status,
                    (refused.none, (r.1.quiet, inr (r.0, r.1, refused.text))),
                  )))
            ]
        | inr other ↦
            elim other [
              | inl u ↦
                  elim u.2 [
                    | inl showed ↦ inr (inl (
                      showed.status
                          ∙ ap (λ (x : Ending p.Sets). x.status) u.1.line,
                      (u.0, u.1, showed),
                    ))
                    | inr stopped ↦ inr (inr (inl (stopped.status, (stopped.none, (u.0, inr u.1, stopped.text)))))
                  ]
              | inr m ↦
                  inr (inr (inr (
                    m.1.status,
                    (m.1.none, (m.0, inl (wrote_nothing before.output now.output m.1.text))),
                  )))
            ]
      ]

  no_fault_fell : (plan : Plan p.Sets) (before now : Outside) (loads : List Load) (answer : Answer p.Kept)
      → CallWays plan before now loads answer → before.output.faults ≤ now.output.faults
  no_fault_fell plan before now loads answer (inl a) = omega (arith, a.1.2.text.wrote.quiet)
  no_fault_fell plan before now loads answer (inr (inl b)) = omega (arith, b.1.2.text.wrote.quiet)
  no_fault_fell plan before now loads answer (inr (inr (inl c))) = c.1.1.2.cut.count
  no_fault_fell plan before now loads answer (inr (inr (inr d))) =
      elim d.1.1.1 [ inl none ↦ omega (arith, none.quiet) | inr some ↦ omega (arith, some.2.wrote.quiet) ]

  -- the texts of what is due are made of lines
  module _ (plan : Plan p.Sets) (before now : Outside) (loads : List Load) (all : Every (IsFinal p) SaysLine plan) where
    reached_final : (ending : Ending p.Sets) → Reached plan before now loads ending → IsFinal p ending
    reached_final ending reached =
        all_come (IsFinal p) SaysLine before.files.held plan loads ending all reached.comes

    unloaded_has : (ending : Ending p.Sets) → Unloaded plan before now loads ending → AreOfLines p ending.texts
    unloaded_has ending u =
        let missing =
        file_comes (IsFinal p) SaysLine before.files.held plan u.earlier u.file u.next all u.comes in
        subst (λ (e : Ending p.Sets). AreOfLines p e.texts) (sym u.line)
        (one_text p (u.file.missing ∷ []) (missing, tt))

    due_has : (ending : Ending p.Sets) → IsDue plan before now loads ending → AreOfLines p ending.texts
    due_has ending (inl reached) = (reached_final ending reached).texts
    due_has ending (inr u) = unloaded_has ending u

    -- each piece that was given whole is one line
    gave_lines : (answer : Answer p.Kept) → CallWays plan before now loads answer → GaveLines before.output now.output
    gave_lines answer (inl a) =
        let w = a.1.2.text in
        record {
          pieces = w.lines;
          given = w.wrote.given;
          lines = (reached_final a.1.0 a.1.1).texts w.lines w.among;
        }
    gave_lines answer (inr (inl b)) =
        let w = b.1.2.text in
        record { pieces = w.lines; given = w.wrote.given; lines = unloaded_has b.1.0 b.1.1 w.lines w.among }
    gave_lines answer (inr (inr (inl c))) =
        let k = c.1.1.2 in
        record {
          pieces = k.cut.whole;
          given = k.cut.given;
          lines =
              lines_front k.cut.whole (k.cut.next ∷ k.cut.rest)
              (subst AreLines k.cut.text (due_has c.1.1.0 c.1.1.1 k.lines k.among));
        }
    gave_lines answer (inr (inr (inr d))) =
        elim d.1.1.1 [
          | inl none ↦ record { pieces = []; given = none.given; lines = tt }
          | inr some ↦
              let w = some.2 in
              record {
                pieces = w.lines;
                given = w.wrote.given;
                lines = (reached_final some.0 some.1).unfinished w.lines w.among;
              }
        ]

  -- nothing is kept where the plan's ending was not shown
  dropped_then : (plan : Plan p.Sets) (before now : Outside) (loads : List Load) (answer : Answer p.Kept)
      → CallWays plan before now loads answer → 5 ≤ answer.status → answer.kept ≡ None
  dropped_then plan before now loads answer (inl a) many = absurd (omega (arith, a.0, many))
  dropped_then plan before now loads answer (inr (inl b)) many =
      subst (λ (e : Ending p.Sets). IsKeptBeside p e.texts b.1.2.text.lines answer.kept) b.1.1.line b.1.2.kept
  dropped_then plan before now loads answer (inr (inr (inl c))) many = c.1.0
  dropped_then plan before now loads answer (inr (inr (inr d))) many = d.1.0

  told_way : (plan : Plan p.Sets) (before now : Outside) (loads : List Load)
      (answer : Answer p.Kept) (ending : Ending p.Sets)
      → CallWays plan before now loads answer
      → told_ending before.files.held plan
      ≡ Some ending → NoneAskedRose before now loads → ¬ HasRisen before.output.faults now.output.faults
      → Showed p ending before.output now.output answer ⊎ (answer.status ≡ 7)
  told_way plan before now loads answer ending (inl a) told quiet sink =
      let same = told_comes before.files.held plan loads a.1.0 ending a.1.1.comes told in
      inl (subst (λ (e : Ending p.Sets). Showed p e before.output now.output answer) same a.1.2)
  told_way plan before now loads answer ending (inr (inl b)) told quiet sink =
      let P : List ℕ → Type 0 = λ name. ¬ HasRisen (before.files.faults name) (now.files.faults name) in
      let u = b.1.1 in
      absurd (each_last P u.earlier (load_of u.file) (subst (EachName P) u.last quiet) u.risen)
  told_way plan before now loads answer ending (inr (inr (inl c))) told quiet sink = absurd (sink c.1.1.2.cut.risen)
  told_way plan before now loads answer ending (inr (inr (inr d))) told quiet sink = inr d.0

  pub promise : (plan : Plan p.Sets) (before now : Outside) (answer : Answer p.Kept) → Every (IsFinal p) SaysLine plan
      → Follows p plan before now answer → Promise p plan before now answer
  promise plan before now answer all follows =
      let e = ended plan before now answer follows in
      let w = ways plan before now answer all e in
      record {
        loads = e.loads;
        asked = e.asked;
        in_order = e.in_order;
        ended = up_to_4 answer.status w;
        failed = at_5 answer.status w;
        stopped = λ six. (at_6 answer.status w six).1;
        refused = λ seven. (at_7 answer.status w seven).1;
        statuses = up_to_7 answer.status w;
        told = λ ending is quiet sink. told_way plan before now e.loads answer ending w is quiet sink;
        dropped = dropped_then plan before now e.loads answer w;
        pieces = gave_lines plan before now e.loads all answer w;
        counts = (e.count, no_fault_fell plan before now e.loads answer w);
        keeps = e.keeps;
      }
