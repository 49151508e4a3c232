-- Each step keeps the rule.
use Rattle.std.proofs.Common.{◌≡◌, ◌≢◌, ℕ, zero, suc, ◌<◌, List, [], ◌∷◌, ◌⊎◌, get_or, eqb}
use Rattle.std.proofs.Common.{refl, sym, ap, subst, inl, inr, ⊎_elim, arith, Option, Some, None}
use mathlib.Core.Option.{none, some, some-ne-none, some-injective}
use mathlib.Core.Option as maybe
use lib.ListN.{get_elem?}
use prog.Atomic.{either}
use Rattle.atomic_table.proofs.Lists.{set_again, exchanged}
use Rattle.atomic_table.specs.Table.{State, Me, Act, keeps, takes, gives, Valid, stepped}
use Rattle.atomic_table.specs.Table.{carried_after, Allows}
use Rattle.errand.specs.declared.note.Note.{Note}
use Rattle.errand.specs.declared.note.Role.{Role}
use Rattle.errand.specs.declared.note.Role.TheVariants.{Alone, Fresh, Gives, Awaits, Stopped, Works, Ended}
use Rattle.errand.specs.Turns.{number, MaySleep, note, paired, alone, bare, laden, Offered, Begun, Stage}
use Rattle.errand.specs.Turns.{Turns, fetched, began, asked, looked, took, brought, gave, stopped}

module _ {J : Type 0} where
  vacant_job : (i : J) → Some i ≡ None → ⊥
  vacant_job i e = absurd (cc)

  abbrev pub job_or : J → Option J → J
  job_or d None = d
  job_or d (Some x) = x

  inside : (i j : J) → Some i ≡ Some j → i ≡ j
  inside i j e = ap (job_or i) e

  module _ (needs : J → Type 0) (does : J → J → Type 0) where
    abbrev S : Type 0
    S = State (Option J) (Note J)

    -- what a step owes in the state s that makes x of the word i
    abbrev GoesTo : S → ℕ → ℕ → Me (Option J) (Note J) → ℕ → (ℕ → Me (Option J) (Note J) → Type 0) → Type 0
    GoesTo s id i me x then = (w : Note J) × (a : Act (Option J)) × Valid s.homes me.1 a
        × Turns needs does (stepped s i x id me.1 w a) × then (get_or s.words i 0) (w, carried_after me.1 a)

    -- what a step at the word i owes in the state s
    abbrev Goes : S → ℕ → ℕ → Me (Option J) (Note J) → (ℕ → ℕ) → (ℕ → Me (Option J) (Note J) → Type 0) → Type 0
    Goes s id i me f then = GoesTo s id i me (f (get_or s.words i 0)) then

    -- a change of the turn's word from 1 that finds another number
    finds_other : (s : S) (id x : ℕ) (me : Me (Option J) (Note J)) (then : ℕ → Me (Option J) (Note J) → Type 0)
        → get_or s.words 0 0 ≢ 1
        → GoesTo s id 0 me (get_or s.words 0 0) then → Goes s id 0 me (λ n. either (eqb n 1) x n) then
    finds_other s id x me then other goes =
        exchanged (get_or s.words 0 0) 1 x (λ n. GoesTo s id 0 me n then) (λ one. absurd (other one)) (λ _. goes)

    -- one that finds 1
    finds_one : (s : S) (id x : ℕ) (me : Me (Option J) (Note J)) (then : ℕ → Me (Option J) (Note J) → Type 0)
        → get_or s.words 0 0 ≡ 1 → GoesTo s id 0 me x then → Goes s id 0 me (λ n. either (eqb n 1) x n) then
    finds_one s id x me then one goes =
        exchanged (get_or s.words 0 0) 1 x (λ n. GoesTo s id 0 me n then) (λ _. goes) (λ other. absurd (other one))

    -- a step owes it at both forms of the table
    allowed : (n id i : ℕ) (me : Me (Option J) (Note J)) (f : ℕ → ℕ) (then : ℕ → Me (Option J) (Note J) → Type 0)
        → (get_elem? (note Alone None ∷ []) id ≡ some me.0 → Goes alone id i me f then)
        → ((m p q : ℕ) (h : maybe.Option (Option J)) (r : Role) (a : Option J) (w : Role) (b : Option J)
        → Stage needs does m h r a w b → get_elem? (note r a ∷ note w b ∷ []) id ≡ some me.0
        → Goes (paired m p q h (note r a) (note w b)) id i me f then)
        → Allows (Turns needs does) n id me i f then
    allowed n id i me f then one both s holds _ at _ = ⊎_elim
        (λ (e : s ≡ alone). subst (λ (t : S). get_elem? t.views id ≡ some me.0 → Goes t id i me f then) (sym e) one at)
        (λ x. subst (λ (t : S). get_elem? t.views id ≡ some me.0 → Goes t id i me f then) (sym x.8)
        (both x.0 x.1 x.2 x.3 x.4 x.5 x.6 x.7 x.9) at)
        holds

    not_alone : (id : ℕ) (v : Note J) → number v.role ≢ 0 → get_elem? (note Alone None ∷ []) id ≡ some v → ⊥
    not_alone zero v other at = other (sym (ap (λ (u : Note J). number u.role) (some-injective _ _ at)))
    not_alone (suc id) v other at = some-ne-none v (sym at)

    -- which roles stand first, and which second
    gives-first : (m : ℕ) (h : maybe.Option (Option J)) (r : Role) (a : Option J) (w : Role) (b : Option J)
        → Stage needs does m h r a w b → number r < 5
    gives-first m h Alone a w b stage = absurd stage
    gives-first m h Fresh a w b stage = omega arith
    gives-first m h Gives a w b stage = omega arith
    gives-first m h Awaits a w b stage = omega arith
    gives-first m h Stopped a w b stage = omega arith
    gives-first m h Works a w b stage = absurd stage
    gives-first m h Ended a w b stage = absurd stage

    at-work : (w : Role) → w ≡ Works → 4 < number w
    at-work w is = rw is (omega arith)

    works-second : (m : ℕ) (h : maybe.Option (Option J)) (r : Role) (a : Option J) (w : Role) (b : Option J)
        → Stage needs does m h r a w b → 4 < number w
    works-second m h Alone a w b stage = absurd stage
    works-second m h Fresh a w b stage = at-work w stage.0
    works-second m h Gives None w b stage = at-work w stage.0
    works-second m h Gives (Some j) w b stage = at-work w stage.0
    works-second m h Awaits None w b stage = absurd stage
    works-second m h Awaits (Some j) w b stage = at-work w stage.0
    works-second m h Stopped a w b stage = ⊎_elim (at-work w) (λ (is : w ≡ Ended). rw is (omega arith)) stage.0
    works-second m h Works a w b stage = absurd stage
    works-second m h Ended a w b stage = absurd stage

    -- a step of the giver owes it where the giver's note stands first
    of_giver : (n id i : ℕ) (v : Note J) (c : List (ℕ × Option J)) (f : ℕ → ℕ)
        (then : ℕ → Me (Option J) (Note J) → Type 0) → 0 < number v.role → number v.role < 5
        → ((m p q : ℕ) (h : maybe.Option (Option J)) (w : Role) (b : Option J) → Stage needs does m h v.role v.job w b
        → Goes (paired m p q h v (note w b)) 0 i (v, c) f then)
        → Allows (Turns needs does) n id (v, c) i f then
    of_giver n id i v c f then some_role giver goes =
        allowed n id i (v, c) f then (λ at. absurd (not_alone id v (λ e. omega (arith, e, some_role)) at)) (at_place id)
      where
        at_place : (id m p q : ℕ) (h : maybe.Option (Option J)) (r : Role) (a : Option J) (w : Role) (b : Option J)
            → Stage needs does m h r a w b → get_elem? (note r a ∷ note w b ∷ []) id ≡ some v
            → Goes (paired m p q h (note r a) (note w b)) id i (v, c) f then
        at_place zero m p q h r a w b stage at =
            subst (λ (u : Note J). Stage needs does m h u.role u.job w b → Goes (paired m p q h u (note w b)) 0 i (v, c)
            f then) (sym (some-injective _ _ at)) (goes m p q h w b) stage
        at_place (suc zero) m p q h r a w b stage at = let e =
            ap (λ (u : Note J). number u.role) (some-injective _ _ at) in let second = works-second m h r a w b stage in
            absurd (omega (arith, e, second, giver))
        at_place (suc (suc id)) m p q h r a w b stage at = absurd (some-ne-none _ (sym at))

    -- and a step of the worker where the worker's note stands second
    of_worker : (n id i : ℕ) (v : Note J) (c : List (ℕ × Option J)) (f : ℕ → ℕ)
        (then : ℕ → Me (Option J) (Note J) → Type 0) → 4 < number v.role
        → ((m p q : ℕ) (h : maybe.Option (Option J)) (r : Role) (a : Option J) → Stage needs does m h r a v.role v.job
        → Goes (paired m p q h (note r a) v) 1 i (v, c) f then)
        → Allows (Turns needs does) n id (v, c) i f then
    of_worker n id i v c f then worker goes =
        allowed n id i (v, c) f then (λ at. absurd (not_alone id v (λ e. omega (arith, e, worker)) at)) (at_place id)
      where
        at_place : (id m p q : ℕ) (h : maybe.Option (Option J)) (r : Role) (a : Option J) (w : Role) (b : Option J)
            → Stage needs does m h r a w b → get_elem? (note r a ∷ note w b ∷ []) id ≡ some v
            → Goes (paired m p q h (note r a) (note w b)) id i (v, c) f then
        at_place zero m p q h r a w b stage at = let e = ap (λ (u : Note J). number u.role) (some-injective _ _ at) in
            let first = gives-first m h r a w b stage in absurd (omega (arith, e, first, worker))
        at_place (suc zero) m p q h r a w b stage at =
            subst (λ (u : Note J). Stage needs does m h r a u.role u.job → Goes (paired m p q h (note r a) u) 1 i (v, c)
            f then) (sym (some-injective _ _ at)) (goes m p q h r a) stage
        at_place (suc (suc id)) m p q h r a w b stage at = absurd (some-ne-none _ (sym at))

    -- the giver begins: it takes the slot
    pub begins : (n id : ℕ) (me : Me (Option J) (Note J)) → me ≡ bare Fresh None
        → Allows (Turns needs does) n id me 0 (λ x. x) (λ _ m'. began m')
    begins n id me is = subst
        (λ (u : Me (Option J) (Note J)). Allows (Turns needs does) n id u 0 (λ x. x) (λ _ m'. began m')) (sym is)
        (of_giver n id 0 (note Fresh None) [] (λ x. x) (λ _ m'. began m') (omega arith) (omega arith)
        (λ m p q h w b stage. (
          note Gives None,
          takes 0 None,
          ap (λ (l : maybe.Option (Option J)). some l) stage.3,
          inr
              (m, p, q, none, Gives, None, w, b, refl, (stage.0, stage.1, inl stage.2)),
          refl,
        )))

    -- the giver gives a job
    pub asks : (n id : ℕ) (me : Me (Option J) (Note J)) (x : J) → needs x → me ≡ laden Gives None (Some x)
        → Allows (Turns needs does) n id me 0 (λ _. 1) (λ _ m'. asked me m')
    asks n id me x may is = subst
        (λ (u : Me (Option J) (Note J)). Allows (Turns needs does) n id u 0 (λ _. 1) (λ _ m'. asked u m')) (sym is)
        (of_giver n id 0 (note Gives None) ((0, Some x) ∷ []) (λ _. 1)
        (λ _ m'. m' ≡ bare Gives (Some x)) (omega arith) (omega arith)
        (λ m p q h w b stage. (
          note Gives (Some x),
          gives,
          tt,
          inr
              (1, p, q, some (Some x), Gives, Some x, w, b, refl, (stage.0, inl (refl, refl, may, stage.1))),
          refl,
        )))

    -- a job that was begun is no longer given
    begun-number : (m : ℕ) (h : maybe.Option (Option J)) (j : J) (b : Option J)
        → Begun needs does m h j b → (m ≢ 1) × (m ≢ 3)
    begun-number m h j None begun = ((λ e. omega (arith, e, begun.0)), (λ e. omega (arith, e, begun.0)))
    begun-number m h j (Some x) begun = ((λ e. omega (arith, e, begun.0)), (λ e. omega (arith, e, begun.0)))

    -- the giver looks for the job that the worker has begun
    fetch_begun : (j : J) (m p q : ℕ) (h : maybe.Option (Option J)) (w : Role) (b : Option J) → w ≡ Works
        → Begun needs does m h j b
        → Goes (paired m p q h (note Awaits (Some j)) (note w b)) 0 0 (bare Awaits (Some j)) (λ x. x)
        (fetched needs does (bare Awaits (Some j)))
    fetch_begun j m p q h w None works begun = (
      note Gives None,
      takes 0 (Some begun.1.0),
      ap (λ (l : maybe.Option (Option J)). some l) begun.1.1,
      inr (m, p, q, none, Gives, None, w, None, refl, (works, refl, inr begun.0)),
      (
        (λ _. (begun.1.0, refl, λ i e. subst (λ (y : J). does y begun.1.0) (inside j i e) begun.1.2)),
        (λ other. absurd (other begun.0)),
      ),
    )
    fetch_begun j m p q h w (Some y) works begun = (
      note Awaits (Some j),
      keeps,
      tt,
      inr (m, p, q, h, Awaits, Some j, w, Some y, refl, (works, begun)),
      ((λ two. let four = begun.0 in absurd (omega (arith, two, four))), (λ _. refl)),
    )

    pub fetches_job : (n id : ℕ) (me : Me (Option J) (Note J)) (o : Option J) → o ≢ None → me ≡ bare Awaits o
        → Allows (Turns needs does) n id me 0 (λ x. x) (fetched needs does me)
    fetches_job n id me None there is = absurd (there refl)
    fetches_job n id me (Some j) there is = subst
        (λ (u : Me (Option J) (Note J)). Allows (Turns needs does) n id u 0 (λ x. x) (fetched needs does u)) (sym is)
        (of_giver n id 0 (note Awaits (Some j)) [] (λ x. x)
        (fetched needs does (bare Awaits (Some j))) (omega arith) (omega arith)
        (λ m p q h w b stage. fetch_begun j m p q h w b stage.0 stage.1))

    -- the giver takes back the job that it gave
    back_given : (j : J) (m p q : ℕ) (h : maybe.Option (Option J)) (w : Role) (b : Option J) → w ≡ Works
        → Offered needs does m h j b ⊎ Begun needs does m h j b
        → Goes (paired m p q h (note Gives (Some j)) (note w b)) 0 0 (bare Gives (Some j)) (λ x. either (eqb x 1) 0 x)
        (brought needs does (bare Gives (Some j)))
    back_given j m p q h w b works given = ⊎_elim
        (λ (x : Offered needs does m h j b). finds_one (paired m p q h (note Gives (Some j)) (note w b)) 0 0
        (bare Gives (Some j)) (brought needs does (bare Gives (Some j))) x.0 (
          note Gives None,
          takes 0 (Some j),
          ap (λ (l : maybe.Option (Option J)). some l) x.1,
          inr (0, p, q, none, Gives, None, w, b, refl, (works, x.3, inl refl)),
          ((λ _. (j, refl, refl, x.2)), (λ other. absurd (other x.0))),
        ))
        (λ (x : Begun needs does m h j b). finds_other (paired m p q h (note Gives (Some j)) (note w b)) 0 0
        (bare Gives (Some j)) (brought needs does (bare Gives (Some j))) (begun-number m h j b x).0 (
          note Awaits (Some j),
          keeps,
          tt,
          inr (m, p, q, h, Awaits, Some j, w, b, refl, (works, x)),
          ((λ one. absurd ((begun-number m h j b x).0 one)), (λ _. refl)),
        ))
        given

    pub brings_job : (n id : ℕ) (me : Me (Option J) (Note J)) (o : Option J) → o ≢ None → me ≡ bare Gives o
        → Allows (Turns needs does) n id me 0 (λ x. either (eqb x 1) 0 x) (brought needs does me)
    brings_job n id me None there is = absurd (there refl)
    brings_job n id me (Some j) there is =
        subst (λ (u : Me (Option J) (Note J)).
        Allows (Turns needs does) n id u 0 (λ x. either (eqb x 1) 0 x) (brought needs does u)) (sym is)
        (of_giver n id 0 (note Gives (Some j)) [] (λ x. either (eqb x 1) 0 x)
        (brought needs does (bare Gives (Some j))) (omega arith) (omega arith)
        (λ m p q h w b stage. back_given j m p q h w b stage.0 stage.1))

    -- a worker that finds no job stays as it is
    abbrev Idles : ℕ → ℕ → ℕ → maybe.Option (Option J) → Role → Option J → Type 0
    Idles m p q h r a = Goes (paired m p q h (note r a) (note Works None)) 1 0 (bare Works None)
        (λ x. either (eqb x 1) 4 x) (took needs does (bare Works None))

    idles : (m p q : ℕ) (h : maybe.Option (Option J)) (r : Role) (a : Option J)
        → Stage needs does m h r a Works None → m ≢ 1 → Idles m p q h r a
    idles m p q h r a stage other = finds_other (paired m p q h (note r a) (note Works None)) 1 4 (bare Works None)
        (took needs does (bare Works None)) other (
          note Works None,
          keeps,
          tt,
          inr (m, p, q, h, r, a, Works, None, refl, stage),
          ((λ one. absurd (other one)), (λ _. refl)),
        )

    -- the worker begins a job
    begin_job : (m p q : ℕ) (h : maybe.Option (Option J)) (r : Role) (a : Option J)
        → Stage needs does m h r a Works None → Idles m p q h r a
    begin_job m p q h Alone a stage = absurd stage
    begin_job m p q h Fresh a stage = idles m p q h Fresh a stage (λ e. omega (arith, e, stage.2))
    begin_job m p q h Gives None stage = idles m p q h Gives None stage
        (λ e. ⊎_elim (λ (x : m ≡ 0). omega (arith, e, x)) (λ (x : m ≡ 2). omega (arith, e, x)) stage.2)
    begin_job m p q h Gives (Some j) stage = ⊎_elim
        (λ (x : Offered needs does m h j None). finds_one (paired m p q h (note Gives (Some j)) (note Works None)) 1 4
        (bare Works None) (took needs does (bare Works None)) x.0 (
          note Works (Some j),
          takes 0 (Some j),
          ap (λ (l : maybe.Option (Option J)). some l) x.1,
          inr
              (4, p, q, none, Gives, Some j, Works, Some j, refl, (refl, inr (refl, refl))),
          ((λ _. (j, refl, x.2)), (λ other. absurd (other x.0))),
        ))
        (λ (x : Begun needs does m h j None). idles m p q h Gives (Some j) (refl, inr x) (begun-number m h j None x).0)
        stage.1
    begin_job m p q h Awaits None stage = absurd stage
    begin_job m p q h Awaits (Some j) stage = idles m p q h Awaits (Some j) stage (begun-number m h j None stage.1).0
    begin_job m p q h Stopped a stage = idles m p q h Stopped a stage (λ e. omega (arith, e, stage.2))
    begin_job m p q h Works a stage = absurd stage
    begin_job m p q h Ended a stage = absurd stage

    pub begins_job : (n id : ℕ) (me : Me (Option J) (Note J)) → me ≡ bare Works None
        → Allows (Turns needs does) n id me 0 (λ x. either (eqb x 1) 4 x) (took needs does me)
    begins_job n id me is = subst (λ (u : Me (Option J) (Note J)).
        Allows (Turns needs does) n id u 0 (λ x. either (eqb x 1) 4 x) (took needs does u)) (sym is)
        (of_worker n id 0 (note Works None) [] (λ x. either (eqb x 1) 4 x)
        (took needs does (bare Works None)) (omega arith) begin_job)

    -- the worker looks whether a job may still come
    abbrev Looks : ℕ → ℕ → ℕ → maybe.Option (Option J) → Role → Option J → Type 0
    Looks m p q h r a = Goes (paired m p q h (note r a) (note Works None)) 1 0 (bare Works None)
        (λ x. x) (λ n m'. looked (bare Works None) n m')

    goes_on : (m p q : ℕ) (h : maybe.Option (Option J)) (r : Role) (a : Option J)
        → Stage needs does m h r a Works None → m ≢ 3 → Looks m p q h r a
    goes_on m p q h r a stage other = (
      note Works None,
      keeps,
      tt,
      inr (m, p, q, h, r, a, Works, None, refl, stage),
      ((λ three. absurd (other three)), (λ _. refl)),
    )

    look_at : (m p q : ℕ) (h : maybe.Option (Option J)) (r : Role) (a : Option J)
        → Stage needs does m h r a Works None → Looks m p q h r a
    look_at m p q h Alone a stage = absurd stage
    look_at m p q h Fresh a stage = goes_on m p q h Fresh a stage (λ e. omega (arith, e, stage.2))
    look_at m p q h Gives None stage = goes_on m p q h Gives None stage
        (λ e. ⊎_elim (λ (x : m ≡ 0). omega (arith, e, x)) (λ (x : m ≡ 2). omega (arith, e, x)) stage.2)
    look_at m p q h Gives (Some j) stage =
        goes_on m p q h Gives (Some j) stage (λ e. ⊎_elim (λ (x : Offered needs does m h j None). omega (arith, e, x.0))
        (λ (x : Begun needs does m h j None). (begun-number m h j None x).1 e) stage.1)
    look_at m p q h Awaits None stage = absurd stage
    look_at m p q h Awaits (Some j) stage = goes_on m p q h Awaits (Some j) stage (begun-number m h j None stage.1).1
    look_at m p q h Stopped a stage = (
      note Ended None,
      keeps,
      tt,
      inr (m, p, q, h, Stopped, a, Ended, None, refl, (inr refl, refl, stage.2)),
      ((λ _. refl), (λ other. absurd (other stage.2))),
    )
    look_at m p q h Works a stage = absurd stage
    look_at m p q h Ended a stage = absurd stage

    pub looks_up : (n id : ℕ) (me : Me (Option J) (Note J)) → me ≡ bare Works None
        → Allows (Turns needs does) n id me 0 (λ x. x) (λ n m'. looked me n m')
    looks_up n id me is = subst
        (λ (u : Me (Option J) (Note J)). Allows (Turns needs does) n id u 0 (λ x. x) (λ n m'. looked u n m')) (sym is)
        (of_worker n id 0 (note Works None) [] (λ x. x) (λ n m'. looked (bare Works None) n m') (omega arith) look_at)

    -- the worker gives the job back
    abbrev Hands : J → J → ℕ → ℕ → ℕ → maybe.Option (Option J) → Role → Option J → Type 0
    Hands j k m p q h r a = Goes (paired m p q h (note r a) (note Works (Some j))) 1 0
        (laden Works (Some j) (Some k)) (λ _. 2) (λ _ m'. gave m')

    hand_begun : (j k i : J) → does j k → (m : ℕ) (h : maybe.Option (Option J)) → Begun needs does m h i (Some j)
        → Begun needs does 2 (some (Some k)) i None
    hand_begun j k i done m h begun = (refl, (k, refl, subst (λ (z : J). does z k) begun.1 done))

    give_at : (j k : J) → does j k → (m p q : ℕ) (h : maybe.Option (Option J)) (r : Role) (a : Option J)
        → Stage needs does m h r a Works (Some j) → Hands j k m p q h r a
    give_at j k done m p q h Alone a stage = absurd stage
    give_at j k done m p q h Fresh a stage = absurd (vacant_job j stage.1)
    give_at j k done m p q h Gives None stage = absurd (vacant_job j stage.1)
    give_at j k done m p q h Gives (Some i) stage = ⊎_elim
        (λ (x : Offered needs does m h i (Some j)). absurd (vacant_job j x.3))
        (λ (x : Begun needs does m h i (Some j)). (
          note Works None,
          gives,
          tt,
          inr (
            2,
            p,
            q,
            some (Some k),
            Gives,
            Some i,
            Works,
            None,
            refl,
            (refl, inr (hand_begun j k i done m h x)),
          ),
          refl,
        ))
        stage.1
    give_at j k done m p q h Awaits None stage = absurd stage
    give_at j k done m p q h Awaits (Some i) stage = (
      note Works None,
      gives,
      tt,
      inr
          (2, p, q, some (Some k), Awaits, Some i, Works, None, refl, (refl, hand_begun j k i done m h stage.1)),
      refl,
    )
    give_at j k done m p q h Stopped a stage = absurd (vacant_job j stage.1)
    give_at j k done m p q h Works a stage = absurd stage
    give_at j k done m p q h Ended a stage = absurd stage

    pub gives_back : (n id : ℕ) (me : Me (Option J) (Note J)) (j k : J) → me ≡ laden Works (Some j) (Some k) → does j k
        → Allows (Turns needs does) n id me 0 (λ _. 2) (λ _ m'. gave m')
    gives_back n id me j k is done =
        subst (λ (u : Me (Option J) (Note J)). Allows (Turns needs does) n id u 0 (λ _. 2) (λ _ m'. gave m')) (sym is)
        (of_worker n id 0 (note Works (Some j)) ((0, Some k) ∷ []) (λ _. 2)
        (λ _ m'. gave m') (omega arith) (give_at j k done))

    -- the giver ends the work
    pub stops : (n id : ℕ) (me : Me (Option J) (Note J)) → me ≡ laden Gives None None
        → Allows (Turns needs does) n id me 0 (λ _. 3) (λ _ m'. stopped m')
    stops n id me is = subst
        (λ (u : Me (Option J) (Note J)). Allows (Turns needs does) n id u 0 (λ _. 3) (λ _ m'. stopped m')) (sym is)
        (of_giver n id 0 (note Gives None) ((0, None) ∷ []) (λ _. 3) (λ _ m'. stopped m') (omega arith) (omega arith)
        (λ m p q h w b stage. (
          note Stopped None,
          keeps,
          tt,
          inr
              (3, p, q, h, Stopped, None, w, b, refl, (inl stage.0, stage.1, refl)),
          refl,
        )))

    module _ (v : Note J) (c : List (ℕ × Option J)) where
      -- a word that says who sleeps
      flag_at : (x id m p q : ℕ) (h : maybe.Option (Option J)) (r : Role) (a : Option J) (w : Role) (b : Option J)
          → Stage needs does m h r a w b → get_elem? (note r a ∷ note w b ∷ []) id ≡ some v → (i : ℕ) → 0 < i → i < 3
          → Goes (paired m p q h (note r a) (note w b)) id i (v, c) (λ _. x) (λ _ m'. m' ≡ (v, c))
      flag_at x id m p q h r a w b stage at zero some_flag below = absurd (omega arith)
      flag_at x id m p q h r a w b stage at (suc zero) some_flag below = (
        v,
        keeps,
        tt,
        inr (
          m,
          x,
          q,
          h,
          r,
          a,
          w,
          b,
          ap (λ (vs : List (Note J)). record {
            words = m ∷ x ∷ q ∷ [];
            homes = h ∷ [];
            views = vs;
          }) (set_again (note r a ∷ note w b ∷ []) id v at),
          stage,
        ),
        refl,
      )
      flag_at x id m p q h r a w b stage at (suc (suc zero)) some_flag below = (
        v,
        keeps,
        tt,
        inr (
          m,
          p,
          x,
          h,
          r,
          a,
          w,
          b,
          ap (λ (vs : List (Note J)). record {
            words = m ∷ p ∷ x ∷ [];
            homes = h ∷ [];
            views = vs;
          }) (set_again (note r a ∷ note w b ∷ []) id v at),
          stage,
        ),
        refl,
      )
      flag_at x id m p q h r a w b stage at (suc (suc (suc i))) some_flag below = absurd (omega arith)

    pub flags : (n id : ℕ) (me : Me (Option J) (Note J)) (i x : ℕ) → 0 < i → i < 3 → number me.0.role ≢ 0
        → Allows (Turns needs does) n id me i (λ _. x) (λ _ m'. m' ≡ me)
    flags n id me i x some_flag below other =
        allowed n id i me (λ _. x) (λ _ m'. m' ≡ me) (λ at. absurd (not_alone id me.0 other at))
        (λ m p q h r a w b stage at. flag_at me.0 me.1 x id m p q h r a w b stage at i some_flag below)

    awake : (r : Role) (n : ℕ) → MaySleep r n → number r ≢ 0
    awake Alone n may = absurd may
    awake Fresh n may = absurd may
    awake Gives n may = absurd may
    awake Awaits n may = λ e. omega (arith, e)
    awake Stopped n may = absurd may
    awake Works n may = λ e. omega (arith, e)
    awake Ended n may = absurd may

    -- one of an end that may sleep
    pub sleeps : (n id : ℕ) (me : Me (Option J) (Note J)) (i x seen : ℕ) → 0 < i → i < 3 → MaySleep me.0.role seen
        → Allows (Turns needs does) n id me i (λ _. x) (λ _ m'. m' ≡ me)
    sleeps n id me i x seen some_flag below may = flags n id me i x some_flag below (awake me.0.role seen may)
