use Rattle.std.proofs.Common.{◌∙◌}
use Rattle.nbw_ring.proofs.Keeps.{opens}
use Rattle.nbw_ring.proofs.ring.Ring.new.Goals as goal

pub of_words-requires : goal.of_words-requires
of_words-requires c =
    opens _ c.requires.buffers.0 c.as_slice.result.now
    (c.as_slice.ensures.value ∙ c.in_ok-zeros.ensures.items_if_clones_equal (λ y same. same))
