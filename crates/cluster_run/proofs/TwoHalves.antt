-- The two halves of the nodes at the end of a slot: each may end it where all may, and once both have, all have.
use Rattle.cluster_run.proofs.Words.{◌∙◌, length, refl, CurrentSlot, Nodes, AreReady}
use Rattle.cluster_run.specs.Halves.{AreHalves, ArePutBack}
use Rattle.cluster_run.specs.Jobs.{IsJobReady, HasJobEnded}
use Rattle.cluster_run.specs.Slots.{AllHaveEnded}
use Rattle.cluster_run.specs.declared.jobs.EndJob.{EndJob}
use Rattle.cluster_run.proofs.SlotParts.{AreParts, front_ready, back_ready, both_ended}

module _ {at : CurrentSlot} {old taken : Nodes} {front back : EndJob} (h : AreHalves at old taken front back) where
  seats : AreParts (length front.seats.items) old.seats.items front.seats.items back.seats.items
  seats = record { is = h.seats; count = refl }

  desks : AreParts (length front.seats.items) old.desks.items front.desks.items back.desks.items
  desks = record { is = h.desks; count = h.desks_count }

  pub front_may : AreReady at old → IsJobReady front
  front_may ready =
      rw (h.front_at.list, h.front_at.script, h.front_at.medium, h.front_at.first_is) (front_ready seats desks ready)

  pub back_may : AreReady at old → IsJobReady back
  back_may ready =
      rw (h.back_at.list, h.back_at.script, h.back_at.medium, h.back_at.first_is) (back_ready seats desks ready)

  pub halves_ended : {front' back' : EndJob} {new : Nodes}
      → ArePutBack taken front' back' new → HasJobEnded front front'
      → HasJobEnded back back' → AllHaveEnded at old new
  halves_ended put first second = record {
    host_ends = put.host_ends ∙ h.host_ends;
    chosen = put.chosen ∙ h.chosen;
    ended =
        both_ended seats desks put.seats put.desks
        (rw (h.front_at.list, h.front_at.script, h.front_at.medium, h.front_at.first_is) at first)
        (rw (h.back_at.list, h.back_at.script, h.back_at.medium, h.back_at.first_is) at second);
  }
