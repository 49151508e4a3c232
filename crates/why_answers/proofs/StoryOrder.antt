-- What a story tells is in the order of its entries: what is named stands above, all leads back, and nothing is told
-- that is not named.
use Rattle.std.proofs.Common.{◌≡◌, ℕ, ◌<◌, ◌++◌, ◌||◌, ◌⊎◌, inl, inr, Bool, true, false, List, [], ◌∷◌, ap, sym, subst}
use Rattle.std.proofs.Common.{◌∙◌, refl, arith, filter}
use Rattle.std.proofs.lemmas.Bool.{cond_both, false≢true}
use Rattle.std.specs.List.{AllByRecursion, list_any}
use Rattle.std.specs.Prelude.{if◌then◌else◌}
use Rattle.causes.specs.Story.{has_lines, has_spot, is_past_window, kept_of_told, leading, leads_back}
use Rattle.causes.specs.Story.{with_entries}
use Rattle.causes.specs.declared.cause.Spot.{Spot}
use Rattle.causes.specs.declared.cause.Told.{Told}
use Rattle.ttp_world.proofs.Filters.{each-filter}
use Rattle.why_answers.proofs.FromBelow.{kept-no, kept-yes}
use Rattle.why_story.specs.Named.{AreNamed}
use Rattle.why_answers.proofs.SpotOrder.{Falls, IsBefore, each-has, each-weaker, has-append-cases, has-append-left}
use Rattle.why_answers.proofs.SpotOrder.{has-append-right, has-cases, has-here, has-more}
use Rattle.why_answers.proofs.SpotOrder.{not-above, not-itself, or-cases}
use Rattle.why_answers.proofs.SpotOrder.{or-left, or-right}
use Rattle.why_answers.specs.Stories.{AreNamedAbove, AreToldFrom, LeadBack, OthersLeadBack, spots_told}

-- Of some lists.

-- each is among them
each-among : (xs ys : List Spot) → ((e : Spot) → has_spot xs e ≡ true → has_spot ys e ≡ true)
    → AllByRecursion (λ e. has_spot ys e ≡ true) xs
each-among [] ys within = tt
each-among (x ∷ xs) ys within =
    (within x (has-here x xs), each-among xs ys (λ e has. within e (has-more e x xs has)))

-- what a test keeps, and what it keeps of those among some
pub filter-passes : (p : Spot → Bool) (e : Spot) (xs : List Spot) → has_spot (filter p xs) e ≡ true → p e ≡ true
filter-passes p e xs has =
    each-has (λ x. p x ≡ true) (filter p xs) e
    (each-weaker (λ x. Unit {0} × (p x ≡ true)) (λ x. p x ≡ true) (filter p xs) (λ x two. two.1)
    (each-filter (λ x. Unit {0}) p xs (each-unit xs))) has
  where
    each-unit : (xs : List Spot) → AllByRecursion (λ x. Unit {0}) xs
    each-unit [] = tt
    each-unit (x ∷ xs) = (tt, each-unit xs)

filter-holds : (P : Spot → Type 0) (p : Spot → Bool) (e : Spot) (xs : List Spot) → AllByRecursion P xs
    → has_spot (filter p xs) e ≡ true → P e
filter-holds P p e xs all has =
    each-has P (filter p xs) e
    (each-weaker (λ x. P x × (p x ≡ true)) P (filter p xs) (λ x two. two.0) (each-filter P p xs all)) has

pub filter-keeps : (p : Spot → Bool) (e : Spot) (xs : List Spot) → has_spot xs e ≡ true → p e ≡ true
    → has_spot (filter p xs) e ≡ true
filter-keeps p e [] has passes = has
filter-keeps p e (x ∷ xs) has passes =
    cond_both (p x) (x ∷ filter p xs) (filter p xs) (λ (spots : List Spot). has_spot spots e ≡ true)
    (λ is. elim (has-cases e x xs has) [
      | inl same ↦ subst (λ (y : Spot). has_spot (y ∷ filter p xs) e ≡ true) same (has-here e (filter p xs))
      | inr more ↦ has-more e x (filter p xs) (filter-keeps p e xs more passes)
    ])
    (λ is. elim (has-cases e x xs has) [
      | inl same ↦ absurd (false≢true (sym is ∙ (ap p (sym same) ∙ passes)))
      | inr more ↦ filter-keeps p e xs more passes
    ])

-- one of some that pass a test is among them
any-with : (p : Spot → Bool) (xs : List Spot) → list_any p xs ≡ true
    → (e : Spot) × (has_spot xs e ≡ true) × (p e ≡ true)
any-with p [] any = absurd (false≢true any)
any-with p (x ∷ xs) any = elim (or-cases (p x) (list_any p xs) any) [
  | inl here ↦ (x, has-here x xs, here)
  | inr more ↦ let found = any-with p xs more in (found.0, has-more found.0 x xs found.1, found.2)
]

any-from : (p : Spot → Bool) (xs : List Spot) (e : Spot) → has_spot xs e ≡ true → p e ≡ true → list_any p xs ≡ true
any-from p [] e has passes = has
any-from p (x ∷ xs) e has passes = elim (has-cases e x xs has) [
  | inl same ↦ or-left (p x) (list_any p xs) (ap p (sym same) ∙ passes)
  | inr more ↦ or-right (p x) (list_any p xs) (any-from p xs e more passes)
]

-- What leads back.

lead-if : Bool → Spot → List Spot → List Spot
lead-if b s back = if b then s ∷ back else back

leading-is : (t : Told) (older : List Told)
    → leading (t ∷ older) ≡ lead-if (leads_back (leading older) t.cause) t.spot (leading older)
unfolding lead-if
leading-is t older = refl

lead-cases : (b : Bool) (s e : Spot) (back : List Spot) → has_spot (lead-if b s back) e ≡ true
    → ((e ≡ s) × (b ≡ true)) ⊎ (has_spot back e ≡ true)
unfolding lead-if
lead-cases true s e back has = elim (has-cases e s back has) [ inl same ↦ inl (same, refl) | inr more ↦ inr more ]
lead-cases false s e back has = inr has

lead-more : (b : Bool) (s e : Spot) (back : List Spot) → has_spot back e ≡ true → has_spot (lead-if b s back) e ≡ true
unfolding lead-if
lead-more true s e back has = has-more e s back has
lead-more false s e back has = has

-- it is the newest, which leads back by the others, or one of the others
leading-cases : (t : Told) (older : List Told) (e : Spot) → has_spot (leading (t ∷ older)) e ≡ true
    → ((e ≡ t.spot) × (leads_back (leading older) t.cause ≡ true)) ⊎ (has_spot (leading older) e ≡ true)
leading-cases t older e has =
    lead-cases (leads_back (leading older) t.cause) t.spot e (leading older)
    (subst (λ (spots : List Spot). has_spot spots e ≡ true) (leading-is t older) has)

leading-more : (t : Told) (older : List Told) (e : Spot) → has_spot (leading older) e ≡ true
    → has_spot (leading (t ∷ older)) e ≡ true
leading-more t older e has =
    subst (λ (spots : List Spot). has_spot spots e ≡ true) (sym (leading-is t older))
    (lead-more (leads_back (leading older) t.cause) t.spot e (leading older) has)

pub leading-told : (told : List Told) (e : Spot) → has_spot (leading told) e
    ≡ true → has_spot (spots_told told) e ≡ true
leading-told [] e has = has
leading-told (t ∷ older) e has = elim (leading-cases t older e has) [
  | inl newest ↦ subst (λ (s : Spot). has_spot (s ∷ spots_told older) e ≡ true) newest.0 (has-here e (spots_told older))
  | inr more ↦ has-more e t.spot (spots_told older) (leading-told older e more)
]

-- What is kept.

-- by whether the newest is marked
kept-if : (Q : List Told → Type 0) (back marks : List Spot) (t : Told) (older : List Told) (b : Bool)
    → has_spot marks t.spot ≡ b
    → (b ≡ true → Q (with_entries t (filter (has_spot back) t.cause.entries)
    ∷ kept_of_told back (filter (has_spot back) t.cause.entries ++ marks) older))
    → (b ≡ false → Q (kept_of_told back marks older))
    → Q (kept_of_told back marks (t ∷ older))
kept-if Q back marks t older true is kept left = subst Q (sym (kept-yes back marks t older is)) (kept refl)
kept-if Q back marks t older false is kept left = subst Q (sym (kept-no back marks t older is)) (left refl)

kept-by : (Q : List Told → Type 0) (back marks : List Spot) (t : Told) (older : List Told)
    → (has_spot marks t.spot ≡ true → Q (with_entries t (filter (has_spot back) t.cause.entries)
    ∷ kept_of_told back (filter (has_spot back) t.cause.entries ++ marks) older))
    → (has_spot marks t.spot ≡ false → Q (kept_of_told back marks older))
    → Q (kept_of_told back marks (t ∷ older))
kept-by Q back marks t older kept left = kept-if Q back marks t older (has_spot marks t.spot) refl kept left

-- one that is told and marked is kept
pub kept-has : (back marks : List Spot) (told : List Told) (e : Spot) → has_spot (spots_told told) e ≡ true
    → has_spot marks e ≡ true → has_spot (spots_told (kept_of_told back marks told)) e ≡ true
kept-has back marks [] e is marked = is
kept-has back marks (t ∷ older) e is marked =
    let named = filter (has_spot back) t.cause.entries in
    let rest = spots_told (kept_of_told back (named ++ marks) older) in
    kept-by (λ (ts : List Told). has_spot (spots_told ts) e ≡ true) back marks t older
    (λ here. elim (has-cases e t.spot (spots_told older) is) [
      | inl same ↦ subst (λ (s : Spot). has_spot (s ∷ rest) e ≡ true) same (has-here e rest)
      | inr more ↦ has-more e t.spot rest
          (kept-has back (named ++ marks) older e more (has-append-right e named marks marked))
    ])
    (λ none. elim (has-cases e t.spot (spots_told older) is) [
      | inl same ↦ absurd (false≢true (sym none ∙ (ap (has_spot marks) (sym same) ∙ marked)))
      | inr more ↦ kept-has back marks older e more marked
    ])

-- What holds of a story of an entry.
pub record IsStory (asked : Spot) (told : List Told) : Type 0 where
  pub above : AreNamedAbove told
  pub from : AreToldFrom asked told
  pub lead : OthersLeadBack told

-- By an order in which causes stand above.

module _ (level : Spot → ℕ) where
  -- the causes of an entry stand above it
  abbrev pub HasAbove : Told → Type 0
  HasAbove t = AllByRecursion (λ e. level e < level t.spot) t.cause.entries

  -- what leads back is told of these and leads back by them, or all of these are before it
  abbrev Known : List Spot → List Told → Type 0
  Known back told =
      (e : Spot) → has_spot back e ≡ true
      → (has_spot (leading told) e ≡ true) ⊎ AllByRecursion (λ o. IsBefore level o e) (spots_told told)

  known-older : (back : List Spot) (t : Told) (older : List Told)
      → AllByRecursion (λ o. IsBefore level o t.spot) (spots_told older)
      → Known back (t ∷ older) → Known back older
  known-older back t older falls known e has = elim (known e has) [
    | inl leads ↦ elim (leading-cases t older e leads) [
      | inl newest ↦ inr (subst
          (λ (s : Spot). AllByRecursion (λ o. IsBefore level o s) (spots_told older)) (sym newest.0) falls)
      | inr more ↦ inl more
    ]
    | inr before ↦ inr before.1
  ]

  not-less : (m n : ℕ) → m ≡ n → m < n → ⊥
  not-less m n is less = omega (arith, is, less)

  -- a cause that leads back is told of older ones
  cause-older : (back : List Spot) (t : Told) (older : List Told) (e : Spot) → Known back (t ∷ older)
      → level e < level t.spot → has_spot back e ≡ true → has_spot (spots_told older) e ≡ true
  cause-older back t older e known above has = elim (known e has) [
    | inl leads ↦ elim (has-cases e t.spot (spots_told older) (leading-told (t ∷ older) e leads)) [
      | inl same ↦ absurd (not-less (level e) (level t.spot) (ap level same) above)
      | inr more ↦ more
    ]
    | inr before ↦ absurd (not-above level t.spot e before.0 above)
  ]

  -- one that leads back names a line, a clock past the window, or an older one that leads back
  leads-by : (back : List Spot) (t : Told) (older : List Told) → Known back (t ∷ older)
      → AllByRecursion (λ o. IsBefore level o t.spot) (spots_told older) → has_spot back t.spot ≡ true
      → leads_back (leading older) t.cause ≡ true
  leads-by back t older known falls has = elim (known t.spot has) [
    | inl leads ↦ elim (leading-cases t older t.spot leads) [
      | inl newest ↦ newest.1
      | inr more ↦ absurd (not-itself level t.spot t.spot
          (each-has (λ o. IsBefore level o t.spot) (spots_told older) t.spot
          falls (leading-told older t.spot more)) refl)
    ]
    | inr before ↦ absurd (not-itself level t.spot t.spot before.0 refl)
  ]

  -- What is named.

  named-above : (back marks : List Spot) (t : Told) (older : List Told) → Known back (t ∷ older) → HasAbove t
      → AllByRecursion (λ e. has_spot
      (spots_told (kept_of_told back (filter (has_spot back) t.cause.entries ++ marks) older)) e ≡ true)
      (filter (has_spot back) t.cause.entries)
  named-above back marks t older known above =
      let named = filter (has_spot back) t.cause.entries in
      each-among named (spots_told (kept_of_told back (named ++ marks) older))
      (λ e has. kept-has back (named ++ marks) older e
      (cause-older back t older e known
      (filter-holds (λ x. level x < level t.spot) (has_spot back) e t.cause.entries above has)
      (filter-passes (has_spot back) e t.cause.entries has))
      (has-append-left e named marks has))

  pub kept-above : (back marks : List Spot) (told : List Told) → Known back told → Falls level (spots_told told)
      → AllByRecursion HasAbove told → AreNamedAbove (kept_of_told back marks told)
  kept-above back marks [] known falls above = tt
  kept-above back marks (t ∷ older) known falls above =
      let more = filter (has_spot back) t.cause.entries ++ marks in
      let rest = known-older back t older falls.0 known in
      kept-by AreNamedAbove back marks t older
      (λ here. (named-above back marks t older known above.0, kept-above back more older rest falls.1 above.1))
      (λ none. kept-above back marks older rest falls.1 above.1)

  -- What leads back, of those that are marked by what leads back, or are one that is not told.

  abbrev MarkedBy : Spot → List Spot → List Spot → Type 0
  MarkedBy asked marks back = (e : Spot) → has_spot marks e ≡ true → (e ≡ asked) ⊎ (has_spot back e ≡ true)

  marked-more : (asked : Spot) (marks back entries : List Spot) → MarkedBy asked marks back
      → MarkedBy asked (filter (has_spot back) entries ++ marks) back
  marked-more asked marks back entries marked e has =
      elim (has-append-cases e (filter (has_spot back) entries) marks has) [
        | inl named ↦ inr (filter-passes (has_spot back) e entries named)
        | inr older ↦ marked e older
      ]

  other-marked : (asked : Spot) (marks back : List Spot) (s : Spot) → IsBefore level s asked → MarkedBy asked marks back
      → has_spot marks s ≡ true → has_spot back s ≡ true
  other-marked asked marks back s before marked here = elim (marked s here) [
    | inl same ↦ absurd (not-itself level s asked before same)
    | inr has ↦ has
  ]

  or-three : (a b c d : Bool) → (a || (b || c)) ≡ true → (c ≡ true → d ≡ true) → (a || (b || d)) ≡ true
  or-three true b c d is gives = refl
  or-three false true c d is gives = refl
  or-three false false c d is gives = gives is

  kept-leads-by : (back marks : List Spot) (t : Told) (older : List Told) → Known back (t ∷ older) → HasAbove t
      → ((e : Spot) → has_spot (leading older) e ≡ true → has_spot back e ≡ true)
      → leads_back (leading older) t.cause ≡ true
      → leads_back (spots_told (kept_of_told back (filter (has_spot back) t.cause.entries ++ marks) older))
      (with_entries t (filter (has_spot back) t.cause.entries)).cause ≡ true
  kept-leads-by back marks t older known above within leads =
      let named = filter (has_spot back) t.cause.entries in
      let kept = spots_told (kept_of_told back (named ++ marks) older) in
      or-three (has_lines t.cause.lines) (is_past_window t.cause.because)
      (list_any (has_spot (leading older)) t.cause.entries) (list_any (has_spot kept) named) leads
      (λ any.
      let found = any-with (has_spot (leading older)) t.cause.entries any in
      let has = filter-keeps (has_spot back) found.0 t.cause.entries found.1 (within found.0 found.2) in
      any-from (has_spot kept) named found.0 has
      (kept-has back (named ++ marks) older found.0 (leading-told older found.0 found.2)
      (has-append-left found.0 named marks has)))

  pub kept-leads : (asked : Spot) (back marks : List Spot) (told : List Told) → Known back told
      → Falls level (spots_told told) → AllByRecursion HasAbove told
      → AllByRecursion (λ o. IsBefore level o asked) (spots_told told)
      → ((e : Spot) → has_spot (leading told) e ≡ true → has_spot back e ≡ true) → MarkedBy asked marks back
      → LeadBack (kept_of_told back marks told)
  kept-leads asked back marks [] known falls above others within marked = tt
  kept-leads asked back marks (t ∷ older) known falls above others within marked =
      let more = filter (has_spot back) t.cause.entries ++ marks in
      let rest = known-older back t older falls.0 known in
      let inside : (e : Spot) → has_spot (leading older) e ≡ true → has_spot back e ≡ true =
      λ e has. within e (leading-more t older e has) in
      kept-by LeadBack back marks t older
      (λ here. (
        kept-leads-by back marks t older known above.0 inside
            (leads-by back t older known falls.0 (other-marked asked marks back t.spot others.0 marked here)),
        kept-leads asked back more older rest falls.1 above.1 others.1 inside
            (marked-more asked marks back t.cause.entries marked),
      ))
      (λ none. kept-leads asked back marks older rest falls.1 above.1 others.1 inside marked)

  -- Each is named by one that is told, where all but one of the marks are.

  pub kept-named-by : (asked : Spot) (back marks named : List Spot) (told : List Told) → MarkedBy asked marks named
      → AllByRecursion (λ o. IsBefore level o asked) (spots_told told) → AreNamed named (kept_of_told back marks told)
  kept-named-by asked back marks named [] marked others = tt
  kept-named-by asked back marks named (t ∷ older) marked others =
      let more = filter (has_spot back) t.cause.entries in
      let both : MarkedBy asked (more ++ marks) (more ++ named) = λ e has. elim (has-append-cases e more marks has) [
        | inl new ↦ inr (has-append-left e more named new)
        | inr old ↦ elim (marked e old) [ inl same ↦ inl same | inr is ↦ inr (has-append-right e more named is) ]
      ] in
      kept-by (AreNamed named) back marks t older
      (λ here. (
        other-marked asked marks named t.spot others.0 marked here,
        kept-named-by asked back (more ++ marks) (more ++ named) older both others.1,
      ))
      (λ none. kept-named-by asked back marks named older marked others.1)

  -- All of it, of entries of which the newest is the one that is asked for.

  pub kept-story : (t : Told) (older : List Told)
      → Falls level (spots_told (t ∷ older)) → AllByRecursion HasAbove (t ∷ older)
      → IsStory t.spot (kept_of_told (leading (t ∷ older)) (t.spot ∷ []) (t ∷ older))
  kept-story t older falls above =
      let back = leading (t ∷ older) in
      let marks = t.spot ∷ [] in
      let named = filter (has_spot back) t.cause.entries in
      let known : Known back (t ∷ older) = λ e has. inl has in
      let rest : Known back older = known-older back t older falls.0 known in
      let here : has_spot marks t.spot ≡ true = has-here t.spot [] in
      let marked : MarkedBy t.spot marks back = λ e has. elim (has-cases e t.spot [] has) [
        | inl same ↦ inl same
        | inr none ↦ absurd (false≢true none)
      ] in
      let named_marks : MarkedBy t.spot (named ++ marks) named = λ e has. elim (has-append-cases e named marks has) [
        | inl is ↦ inr is
        | inr one ↦ elim (has-cases e t.spot [] one) [ inl same ↦ inl same | inr none ↦ absurd (false≢true none) ]
      ] in
      subst (IsStory t.spot) (sym (kept-yes back marks t older here)) (record {
        above = (
          named-above back marks t older known above.0,
          kept-above back (named ++ marks) older rest falls.1 above.1,
        );
        from = (refl, kept-named-by t.spot back (named ++ marks) named older named_marks falls.0);
        lead = kept-leads t.spot back (named ++ marks) older rest falls.1 above.1 falls.0
            (λ e has. leading-more t older e has) (marked-more t.spot marks back t.cause.entries marked);
      })
