use Rattle.cluster_run.proofs.Words.{[], All, sym, ap, subst, ◌∙◌, All-nil, next_slot, host_at, writes_shown}
use Rattle.cluster_run.proofs.Words.{WritesBytes, after_writes}
use Rattle.cluster_run.proofs.Sends.{unwritten, have_chosen, may_fetch_alone, more_bytes}
use Rattle.cluster_run.proofs.choosing.fetch_and_choose.Goals as goal

pub fetch_each-requires-clause-may : goal.fetch_each-requires-clause-may
fetch_each-requires-clause-may g c κs within = may_fetch_alone c.requires.may.ends_count c.requires.may.begun

pub returns : goal.returns
returns g c =
    let at = c.args.at.now in
    let ends = c.args.ends.now in
    let may = c.requires.may in
    let bytes = more_bytes at may.bytes (subst (All WritesBytes) (sym c.requires.quiet) (All-nil WritesBytes)) in
    record {
      count = c.fetch_each.ensures.ends_count;
      bytes = bytes;
      lines_are = c.new.ensures.items ∙ ap (writes_shown at.list.now at.script.now at.slot []) (sym c.requires.quiet);
      chooses = λ numbers begun.
          let s = next_slot at.list.now at.script.now numbers in
          have_chosen may.ends_count begun c.args.chosen.now bytes
          (λ k node. rw (ap (λ ws. after_writes ws k (host_at ends k)) c.requires.quiet ∙ unwritten (host_at ends k) k)
          (c.in_ok-fetch_each.ensures.fetches s begun.begun k (rw may.ends_count node)));
    }
