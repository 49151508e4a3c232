-- A line and three parts that are written one after another, and where the sink fails within them.
use Rattle.std.proofs.Common.{List, ℕ, [], ◌∷◌, ◌++◌}
use Rattle.ttp_base.specs.Outside.{Output, WroteLines, CutShort}
use Rattle.ttp_base.specs.Text.{Lines}
use Rattle.ttp_base.proofs.Outputs.{CutShort-after, CutShort-more, Wrote-join}

module _ (a b : Output) (head : List ℕ) (x y z : Lines) (wrote : WroteLines a b (head ∷ [])) where
  pub all_parts : (c d e : Output) → WroteLines b c x → WroteLines c d y → WroteLines d e z
      → WroteLines a e (head ∷ x ++ (y ++ z))
  all_parts c d e p q r =
      Wrote-join a b e (head ∷ []) (x ++ (y ++ z)) wrote (Wrote-join b c e x (y ++ z) p (Wrote-join c d e y z q r))

  pub cut_first : (c : Output) → CutShort b c x → CutShort a c (head ∷ x ++ (y ++ z))
  cut_first c cut = CutShort-after a b c (head ∷ []) (x ++ (y ++ z)) wrote (CutShort-more b c x (y ++ z) cut)

  pub cut_second : (c d : Output) → WroteLines b c x → CutShort c d y → CutShort a d (head ∷ x ++ (y ++ z))
  cut_second c d p cut =
      CutShort-after a b d (head ∷ []) (x ++ (y ++ z)) wrote
      (CutShort-after b c d x (y ++ z) p (CutShort-more c d y z cut))

  pub cut_third : (c d e : Output) → WroteLines b c x → WroteLines c d y → CutShort d e z
      → CutShort a e (head ∷ x ++ (y ++ z))
  cut_third c d e p q cut =
      CutShort-after a b e (head ∷ []) (x ++ (y ++ z)) wrote
      (CutShort-after b c e x (y ++ z) p (CutShort-after c d e y z q cut))
