use Rattle.cluster_run.proofs.Words.{◌≡◌, length, sym, ap, ◌∙◌, subst, get_or_from_slice_get, slice_get_within, Message}
use Rattle.cluster_run.proofs.Words.{word_count, All-get_or}
use Rattle.cluster_run.proofs.sending.settle_one.Goals as goal

pub settle_fetch-requires : goal.settle_fetch-requires
settle_fetch-requires c = record { own = (c.requires.fetcher c.in-Some.fetcher c.in-Some.is).own }

pub payload_of-chosen-requires-clause-words : goal.payload_of-chosen-requires-clause-words
payload_of-chosen-requires-clause-words c =
    let fetcher = c.in-Some.fetcher in
    let pair = c.in-Some-settle_fetch.pair in
    let is = sym c.settle_fetch.ensures.pair ∙ c.in-Some-settle_fetch.is in
    let P = λ (m : Message). length m.words ≡ word_count c.args.len in
    ap length c.words.ensures ∙ subst P (get_or_from_slice_get fetcher.got 0 pair pair is)
    (All-get_or P fetcher.got 0 pair (slice_get_within fetcher.got 0 pair is)
    (c.requires.fetcher fetcher c.in-Some.is).words)
