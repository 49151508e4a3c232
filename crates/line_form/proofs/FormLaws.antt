-- The laws of lines, over all descriptions.
use Rattle.std.proofs.Common.{◌≡◌, ℕ, Bool, true, false, cond, ◌&&◌, ◌||◌, not}
use Rattle.std.proofs.Common.{List, [], ◌∷◌, ◌++◌, length, Option, Some, None}
use Rattle.std.proofs.Common.{refl, sym, ap, ◌∙◌, arith, append_assoc}
use Rattle.std.specs.Prelude.{◌==◌, is_some, unwrap_or, IfSome}
use Rattle.std.proofs.lemmas.Bool.{and_parts, eqb-true}
use Rattle.std.proofs.lemmas.List.{append-nil}
use Rattle.ttp_base.specs.Text.{newline, is_line}
use Rattle.ttp_base.proofs.Lines.{is_line-append}
use Rattle.line_form.specs.Kinds.{Kind, Value, spell, read, fits_kind, sound, avoids}
use Rattle.line_form.specs.Kinds.{has_byte, behind_prefix, front, back}
use Rattle.line_form.specs.Forms.{LineForm, Values, spelled_before, spelled, spelled_line}
use Rattle.line_form.specs.Forms.{fit, is_free, starts_with_space}
use Rattle.line_form.specs.Forms.{goes_on, well, labelled, next_word, left_behind, field_word}
use Rattle.line_form.specs.Forms.{no_value, field_value, past, front_word}
use Rattle.line_form.specs.Forms.{behind_word, values_in, left_of, is_end, closed_line, line_values}
use Rattle.line_form.proofs.Tests.{both_true, is_not, some_same, behind_prefix-takes, behind_prefix-again}
use Rattle.line_form.proofs.KindLaws.{lacks, again}
use Rattle.line_form.proofs.ReadLaws.{takes}
use Rattle.line_form.proofs.Cuts.{front-back}
use Rattle.line_form.proofs.Bytes.{has-append, front-again, back-again, front-all}

-- The text of a line, and what comes behind it.

pub spelled-more : (more : List ℕ) (form : LineForm) (values : Values form)
    → spelled_before more form values ≡ spelled form values ++ more
spelled-more more [] values = refl
spelled-more more (f ∷ form) (v, vs) =
    ap (λ (t : List ℕ). f.label ++ (spell f.kind v ++ t)) (spelled-more more form vs)
    ∙ sym (append_assoc f.label (spell f.kind v ++ spelled form vs) more
    ∙ ap (λ (t : List ℕ). f.label ++ t) (append_assoc (spell f.kind v) (spelled form vs) more))

-- no line feed in it
pub no_feed : (form : LineForm) (values : Values form) → well form ≡ true → fit form values ≡ true
    → has_byte 10 (spelled form values) ≡ false
no_feed [] values is fits_all = refl
no_feed (f ∷ form) (v, vs) is fits_all =
    let t = and_parts (sound f.kind)
    (avoids 10 f.kind && (not (has_byte 10 f.label) && (goes_on f.kind form && well form)))
    is in
    let u = and_parts (avoids 10 f.kind) (not (has_byte 10 f.label) && (goes_on f.kind form && well form)) t.1 in
    let w = and_parts (not (has_byte 10 f.label)) (goes_on f.kind form && well form) u.1 in
    let x = and_parts (goes_on f.kind form) (well form) w.1 in
    let g = and_parts (fits_kind f.kind v) (fit form vs) fits_all in
    has-append 10 f.label (spell f.kind v ++ spelled form vs) (is_not (has_byte 10 f.label) w.0)
    (has-append 10 (spell f.kind v) (spelled form vs) (lacks 10 f.kind v u.0 g.0) (no_feed form vs x.1 g.1))

-- so it is one line
pub one_line : (form : LineForm) (values : Values form) → well form ≡ true → fit form values ≡ true
    → is_line (spelled_line form values) ≡ true
one_line form values is fits_all =
    ap is_line (spelled-more newline form values)
    ∙ is_line-append (spelled form values) newline (no_feed form values is fits_all) refl

-- What is spelled is read.

-- what comes behind a word
cut_behind : (k : Kind) (form : LineForm) (v : Value k) (vs : Values form)
    → goes_on k form ≡ true → fits_kind k v ≡ true
    → (front_word (is_free k) (spell k v ++ spelled form vs) ≡ spell k v)
    × (behind_word (is_free k) (spell k v ++ spelled form vs) ≡ spelled form vs)
cut_behind k [] v vs on fit_v = go (is_free k) on (λ a. front-all 32 (spell k v) (lacks 32 k v a fit_v))
  where
    go : (all : Bool) → (all || avoids 32 k) ≡ true
        → (avoids 32 k ≡ true → (front 32 (spell k v) ≡ spell k v) × (back 32 (spell k v) ≡ []))
        → (cond all (spell k v ++ []) (front 32 (spell k v ++ [])) ≡ spell k v)
        × (cond all [] (back 32 (spell k v ++ [])) ≡ [])
    go true e cut = (append-nil (spell k v), refl)
    go false e cut = let c = cut e in
        (ap (front 32) (append-nil (spell k v)) ∙ c.0, ap (back 32) (append-nil (spell k v)) ∙ c.1)
cut_behind k (f ∷ form) v (x, vs) on fit_v =
    let t = and_parts (not (is_free k)) (avoids 32 k && starts_with_space f.label) on in
    let u = and_parts (avoids 32 k) (starts_with_space f.label) t.1 in
    label (is_free k) (is_not (is_free k) t.0) f.label u.1 (spell f.kind x ++ spelled form vs) (lacks 32 k v u.0 fit_v)
  where
    label : (all : Bool) → all ≡ false → (l : List ℕ) → starts_with_space l ≡ true → (rest : List ℕ)
        → has_byte 32 (spell k v) ≡ false
        → (cond all (spell k v ++ (l ++ rest)) (front 32 (spell k v ++ (l ++ rest))) ≡ spell k v)
        × (cond all [] (back 32 (spell k v ++ (l ++ rest))) ≡ l ++ rest)
    label true e l space rest none = cc
    label false e [] space rest none = cc
    label false e (b ∷ l) space rest none =
        let is : b ≡ 32 = eqb-true b 32 space in
        rw is (front-again 32 (spell k v) (l ++ rest) none, back-again 32 (spell k v) (l ++ rest) none)

pub record Taken (label : List ℕ) (k : Kind) (bytes rest : List ℕ) (v : Value k) : Type 0 where
  pub value : field_value label k (Some bytes) ≡ v
  pub left : past label k (Some bytes) ≡ Some rest

pub taken : (label : List ℕ) (k : Kind) (form : LineForm) (v : Value k) (vs : Values form) → sound k ≡ true
    → goes_on k form ≡ true → fits_kind k v ≡ true
    → Taken label k (label ++ (spell k v ++ spelled form vs)) (spelled form vs) v
unfolding field_value past labelled next_word left_behind
taken label k form v vs so on fit_v =
    let cut = cut_behind k form v vs on fit_v in
    let at = behind_prefix-again label (spell k v ++ spelled form vs) in record {
      value = rw (at, cut.0, again k v so fit_v) refl;
      left = rw (at, cut.0, again k v so fit_v) (ap (λ (t : List ℕ). Some t) cut.1);
    }

pub record AllTaken (form : LineForm) (values : Values form) : Type 0 where
  pub values_are : values_in form (Some (spelled form values)) ≡ values
  pub nothing_left : left_of form (Some (spelled form values)) ≡ Some []

pub all_taken : (form : LineForm) (values : Values form) → well form ≡ true → fit form values ≡ true
    → AllTaken form values
all_taken [] values is fits_all = record { values_are = refl; nothing_left = refl }
all_taken (f ∷ form) (v, vs) is fits_all =
    let t = and_parts (sound f.kind)
    (avoids 10 f.kind && (not (has_byte 10 f.label) && (goes_on f.kind form && well form)))
    is in
    let u = and_parts (avoids 10 f.kind) (not (has_byte 10 f.label) && (goes_on f.kind form && well form)) t.1 in
    let w = and_parts (not (has_byte 10 f.label)) (goes_on f.kind form && well form) u.1 in
    let x = and_parts (goes_on f.kind form) (well form) w.1 in
    let g = and_parts (fits_kind f.kind v) (fit form vs) fits_all in
    let one = taken f.label f.kind form v vs t.0 x.0 g.0 in
    let more = all_taken form vs x.1 g.1 in record {
      values_are = ap (λ (y : Value f.kind).
          (y, values_in form (past f.label f.kind (Some (spelled (f ∷ form) (v, vs))))))
          one.value
          ∙ ap (λ (ys : Values form). (v, ys)) (ap (values_in form) one.left ∙ more.values_are);
      nothing_left = ap (left_of form) one.left ∙ more.nothing_left;
    }

pub read_again : (form : LineForm) (values : Values form) → well form ≡ true → fit form values ≡ true
    → line_values form (spelled form values) ≡ Some values
unfolding closed_line
read_again form values is fits_all =
    let all = all_taken form values is fits_all in rw (all.nothing_left, all.values_are) refl

-- What is read is spelled so.

pub none_left : (form : LineForm) → left_of form None ≡ None
unfolding past labelled left_behind
none_left [] = refl
none_left (f ∷ form) = ap (left_of form) (go (is_some (read f.kind (field_word f.label f.kind None)))) ∙ none_left form
  where
    go : (some : Bool) → left_behind (is_free f.kind) some None ≡ None
    go true = refl
    go false = refl

whole : (all : Bool) (bytes : List ℕ) → front_word all bytes ++ behind_word all bytes ≡ bytes
whole true bytes = append-nil bytes
whole false bytes = front-back 32 bytes

took-read : (label : List ℕ) (k : Kind) (bytes rest word behind : List ℕ) (r : Option (Value k)) → read k word ≡ r
    → left_behind (is_free k) (is_some r) (Some behind) ≡ Some rest → word ++ behind_word (is_free k) behind ≡ behind
    → bytes ≡ label ++ behind
    → (bytes ≡ label ++ (spell k (unwrap_or r (no_value k)) ++ rest)) × (fits_kind k (unwrap_or r (no_value k)) ≡ true)
unfolding left_behind
took-read label k bytes rest word behind None is left parts text = cc
took-read label k bytes rest word behind (Some v) is left parts text =
    let t = takes k word v is in
    let r : behind_word (is_free k) behind ≡ rest = some_same (behind_word (is_free k) behind) rest left in (
      text ∙ ap (λ (l : List ℕ). label ++ l) (sym parts)
          ∙ ap (λ (l : List ℕ). label ++ (l ++ behind_word (is_free k) behind)) t.text
          ∙ ap (λ (l : List ℕ). label ++ (spell k v ++ l)) r,
      t.fit,
    )

gone : (all some : Bool) → left_behind all some None ≡ None
unfolding left_behind
gone all true = refl
gone all false = refl

took-at : (label : List ℕ) (k : Kind) (bytes rest : List ℕ) (a : Option (List ℕ)) → behind_prefix label bytes ≡ a
    → left_behind (is_free k) (is_some (read k (next_word (is_free k) a))) a ≡ Some rest
    → (bytes ≡ label ++ (spell k (unwrap_or (read k (next_word (is_free k) a)) (no_value k)) ++ rest))
    × (fits_kind k (unwrap_or (read k (next_word (is_free k) a)) (no_value k)) ≡ true)
unfolding next_word
took-at label k bytes rest None is left =
    let none = gone (is_free k) (is_some (read k [])) in cc
took-at label k bytes rest (Some w) is left =
    took-read label k bytes rest (front_word (is_free k) w) w
    (read k (front_word (is_free k) w)) refl left (whole (is_free k) w)
    (behind_prefix-takes label bytes w is)

took : (label : List ℕ) (k : Kind) (bytes rest : List ℕ) → past label k (Some bytes) ≡ Some rest
    → (bytes ≡ label ++ (spell k (field_value label k (Some bytes)) ++ rest))
    × (fits_kind k (field_value label k (Some bytes)) ≡ true)
unfolding field_value past labelled
took label k bytes rest e = took-at label k bytes rest (behind_prefix label bytes) refl e

empty : (bytes : List ℕ) → (length bytes == 0) ≡ true → bytes ≡ []
empty [] none = refl
empty (b ∷ bytes) none = absurd (omega (arith, eqb-true (length (b ∷ bytes)) 0 none))

pub all_took : (form : LineForm) (bytes : List ℕ) → is_end (left_of form (Some bytes)) ≡ true
    → (bytes ≡ spelled form (values_in form (Some bytes))) × (fit form (values_in form (Some bytes)) ≡ true)
all_took [] bytes end = (empty bytes end, refl)
all_took (f ∷ form) bytes end = go (past f.label f.kind (Some bytes)) refl end (λ rest. all_took form rest)
  where
    go : (p : Option (List ℕ)) → past f.label f.kind (Some bytes) ≡ p → is_end (left_of form p) ≡ true
        → ((rest : List ℕ) → is_end (left_of form (Some rest)) ≡ true
        → (rest ≡ spelled form (values_in form (Some rest))) × (fit form (values_in form (Some rest)) ≡ true))
        → (bytes ≡ f.label ++ (spell f.kind (field_value f.label f.kind (Some bytes))
        ++ spelled form (values_in form p)))
        × ((fits_kind f.kind (field_value f.label f.kind (Some bytes)) && fit form (values_in form p)) ≡ true)
    go None is over more = let none = none_left form in absurd (cc (ap is_end none))
    go (Some rest) is over more =
        let one = took f.label f.kind bytes rest is in
        let others = more rest over in (
          one.0 ∙ ap (λ (l : List ℕ). f.label
              ++ (spell f.kind (field_value f.label f.kind (Some bytes)) ++ l)) others.0,
          both_true (fits_kind f.kind (field_value f.label f.kind (Some bytes)))
              (fit form (values_in form (Some rest))) one.1 others.1,
        )

found_by : (form : LineForm) (bytes : List ℕ) (end : Bool) → is_end (left_of form (Some bytes)) ≡ end
    → IfSome (cond end (Some (values_in form (Some bytes))) None) (λ v. (fit form v ≡ true) × (bytes ≡ spelled form v))
found_by form bytes true end = let all = all_took form bytes end in (all.1, all.0)
found_by form bytes false end = tt

pub reads-found : (form : LineForm) (bytes : List ℕ)
    → IfSome (line_values form bytes) (λ v. (fit form v ≡ true) × (bytes ≡ spelled form v))
unfolding closed_line
reads-found form bytes = found_by form bytes (is_end (left_of form (Some bytes))) refl
