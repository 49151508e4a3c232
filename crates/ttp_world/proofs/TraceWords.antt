-- What no word of a trace has: a byte below 45, as a space or a line feed.
use Rattle.ttp_world.proofs.Words.{◌≡◌, ℕ, ◌≤◌, ◌<◌, true, false, List, [], ◌∷◌, Option, Some, None, refl, arith, codes}
use Rattle.ttp_world.proofs.Words.{◌==◌, nat_le, list_all, and_parts, leb-true, ne_eqb, has, has-decimal, has-hex, Ack}
use Rattle.ttp_world.proofs.Words.{Entry, Reason, Verdict, Source, number_or_dash, verdict_word, reason_word}
use Rattle.ttp_world.proofs.Words.{entry_word, ack_word, word_hex, source_word, message_hex}
use Rattle.std.proofs.lemmas.Bool.{or_from}
use Rattle.ttp_base.proofs.Numerals.{has-append, has-hex_bytes}
use Rattle.ttp_world.specs.declared.node.Ack.TheVariants as ack
use Rattle.ttp_world.specs.declared.node.Entry.TheVariants as entry
use Rattle.ttp_world.specs.declared.node.Reason.TheVariants as reason
use Rattle.ttp_world.specs.declared.node.Verdict.TheVariants as verdict
use Rattle.ttp_world.specs.declared.script.Source.TheVariants as source

-- letters, digits, dashes and colons are bytes from 45 on
has-letters : (b : ℕ) (word : List ℕ) → b < 45 → list_all (nat_le 45) word ≡ true → has b word ≡ false
has-letters b [] low letters = refl
has-letters b (c ∷ word) low letters =
    let parts = and_parts (nat_le 45 c) (list_all (nat_le 45) word) letters in
    let high : 45 ≤ c = leb-true 45 c parts.0 in
    or_from (c == b) (has b word) (ne_eqb c b (λ same. omega (arith, same, high))) (has-letters b word low parts.1)

has-verdict_word : (b : ℕ) (v : Verdict) → b < 45 → has b (verdict_word v) ≡ false
has-verdict_word b verdict.Null low = has-letters b (codes "null") low refl
has-verdict_word b verdict.Invalid low = has-letters b (codes "invalid") low refl
has-verdict_word b verdict.Incorrect low = has-letters b (codes "incorrect") low refl
has-verdict_word b verdict.Correct low = has-letters b (codes "correct") low refl
has-verdict_word b verdict.Tentative low = has-letters b (codes "tentative") low refl
has-verdict_word b verdict.Denied low = has-letters b (codes "denied") low refl

has-reason_word : (b : ℕ) (why : Reason) → b < 45 → has b (reason_word why) ≡ false
has-reason_word b reason.Denied low = has-letters b (codes "denied") low refl
has-reason_word b reason.Unacknowledged low = has-letters b (codes "unacknowledged") low refl
has-reason_word b reason.Clique low = has-letters b (codes "clique") low refl

pub has-entry_word : (b : ℕ) (e : Entry) → b < 45 → has b (entry_word e) ≡ false
has-entry_word b entry.Off low = has-letters b (codes "off") low refl
has-entry_word b entry.Waited low = has-letters b (codes "wait") low refl
has-entry_word b entry.Retried low = has-letters b (codes "retry") low refl
has-entry_word b entry.Gone low = has-letters b (codes "gone") low refl
has-entry_word b entry.Started low = has-letters b (codes "start") low refl
has-entry_word b (entry.Sent message) low = has-letters b (codes "send") low refl
has-entry_word b (entry.Joined sender cstate deviation) low = has-letters b (codes "join") low refl
has-entry_word b (entry.Judged sender v deviation) low = has-verdict_word b v low
has-entry_word b (entry.Left why peer) low = has-reason_word b why low

pub has-number_or_dash : (b : ℕ) (number : Option ℕ) → b < 45 → has b (number_or_dash number) ≡ false
has-number_or_dash b None low = has-letters b (codes "-") low refl
has-number_or_dash b (Some n) low = has-decimal b n low

pub has-ack_word : (b : ℕ) (a : Ack) → b < 45 → has b (ack_word a) ≡ false
has-ack_word b ack.Closed low = has-letters b (codes "none") low refl
has-ack_word b ack.First low = has-letters b (codes "first") low refl
has-ack_word b (ack.Doubt x) low =
    has-append b (codes "doubt:") _ (has-letters b (codes "doubt:") low refl) (has-decimal b x low)

pub has-source_word : (b : ℕ) (from : Source) → b < 45 → has b (source_word from) ≡ false
has-source_word b source.Status low = has-letters b (codes "status") low refl
has-source_word b (source.Node p) low = has-decimal b p low

has-words : (b : ℕ) (words : List ℕ) → b < 45 → has b (message_hex source.Status words) ≡ false
has-words b [] low = refl
has-words b (word ∷ words) low =
    has-append b (word_hex word) (message_hex source.Status words) (has-hex b 16 word low) (has-words b words low)

pub has-message_hex : (b : ℕ) (from : Source) (message : List ℕ) → b < 45 → has b (message_hex from message) ≡ false
has-message_hex b source.Status message low = has-words b message low
has-message_hex b (source.Node p) message low = has-hex_bytes b message low
