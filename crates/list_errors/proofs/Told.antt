-- What is told, one part behind another.
use Rattle.std.proofs.Common.{◌≡◌, ℕ, List, [], ◌++◌, Option, Some, refl, ap, ◌∙◌, length, take, append_assoc}
use Rattle.std.proofs.Common.{false}
use Rattle.std.specs.Prelude.{◌&&◌, nat_le}
use Rattle.toml.specs.Data.{Members}
use Rattle.medl_text.specs.declared.error.FieldName.TheVariants as names
use Rattle.medl_text.specs.ListFile.{at_top}
use Rattle.list_errors.specs.declared.error.Wrong.{Wrong}
use Rattle.list_errors.specs.Errors.{number_wrongs, array_wrongs, modes_wrongs, version_known, rounds_known}
use Rattle.list_errors.specs.Errors.{modes_known, elements_of, top_wrongs, count_wrongs, slots_wrongs}
use Rattle.list_errors.specs.Errors.{unknown_keys_at_top, unknown_keys_in_slots}
use Rattle.list_errors.specs.Errors.{sync_wrongs, below_wrongs, table_wrongs}

more : (old new next front last : List Wrong) → new ≡ old ++ front → next ≡ new ++ last → next ≡ old ++ (front ++ last)
more old new next front last before now = now ∙ ap (λ (w : List Wrong). w ++ last) before ∙ append_assoc old front last

-- nothing is told of `sync` where there are too few slots or too many
pub no_syncs : (slots : List Members) (n : ℕ) → length slots ≡ n → (nat_le 4 n && nat_le n 24) ≡ false
    → sync_wrongs slots ≡ []
unfolding sync_wrongs
no_syncs slots n count other = rw (count, other) refl

module _ (file : Members) (old a b c d e f g h i : List Wrong) where
  -- the parts of the keys at the top
  pub top_told : a ≡ old ++ number_wrongs (at_top names.Version) 1 2 file
      → b ≡ a ++ number_wrongs (at_top names.Rounds) 1 64 file
      → c ≡ b ++ number_wrongs (at_top names.Schedule) 0 16777215 file
      → d ≡ c ++ number_wrongs (at_top names.Buffers) 1 16 file
      → e ≡ d ++ number_wrongs (at_top names.Drift) 0 1000 file
      → f ≡ e ++ number_wrongs (at_top names.Error) 0 1000 file
      → g ≡ f ++ number_wrongs (at_top names.Window) 1 1000000 file → h ≡ g ++ array_wrongs file
      → i ≡ h ++ modes_wrongs file → i ≡ old ++ top_wrongs file
  unfolding top_wrongs
  top_told p q r s t u v w x =
      more old a i _ _ p (more a b i _ _ q (more b c i _ _ r (more c d i _ _ s (more d e i _ _ t (more e f i _ _ u
      (more f g i _ _ v (more g h i _ _ w x)))))))

module _ (file : Members) (version rounds modes : Option ℕ) (slots seen : List Members) (n : ℕ)
    (old top count keys unknown others sync : List Wrong) where
  -- the parts of a whole table
  pub table_told : version ≡ version_known file → rounds ≡ rounds_known file → modes ≡ modes_known file
      → Some slots ≡ elements_of file → seen ≡ take 24 slots → n ≡ length slots → top ≡ old ++ top_wrongs file
      → count ≡ top ++ count_wrongs version n → keys ≡ count ++ slots_wrongs rounds modes 0 seen
      → unknown ≡ keys ++ unknown_keys_at_top file → others ≡ unknown ++ unknown_keys_in_slots 0 seen
      → sync ≡ others ++ sync_wrongs slots → sync ≡ old ++ table_wrongs file
  unfolding table_wrongs
  table_told v r m s e l a b c d f g =
      let all = more old top sync _ _ a (more top count sync _ _ b (more count keys sync _ _ c
      (more keys unknown sync _ _ d (more unknown others sync _ _ f g)))) in
      all ∙ ap (λ (w : List Wrong). old ++ (top_wrongs file ++ w)) (rw (v, r, m, e, l) refl ∙ ap (below_wrongs file) s)
