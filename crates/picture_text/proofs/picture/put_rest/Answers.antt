use Rattle.picture_text.proofs.Words.{subst, ℕ, ◌+◌, [], ◌∷◌, ◌++◌, codes, ended, keep_flag, back_flag, word_entries}
use Rattle.picture_text.proofs.Words.{class_entries, mark_entries, Puts, words}
use Rattle.ttp_base.proofs.Puts.{puts_both}
use Rattle.picture_text.proofs.picture.put_rest.Goals as goal

pub returns : goal.returns
returns g c =
    let n = c.args.layout.head.nodes in
    let span = c.args.layout.span in
    subst (λ (top : ℕ). Puts c.args.sheet.now.failed (g.K.Sink.output c.args.out.now) c.put.new.self.failed
    (g.K.Sink.output c.put.new.out)
    (keep_flag n span c.args.keep ++ back_flag n span c.args.back ++ word_entries top 0 words
    ++ class_entries (top + 118) ++ mark_entries (top + 118) ++ ended (codes "</svg>") ∷ []))
    c.legend_top-top.ensures.value
    (puts_both (puts_both (puts_both (puts_both (puts_both c.put_keep_flag.ensures c.put_back_flag.ensures)
    c.put_words.ensures) c.put_classes.ensures) c.put_mark_entries.ensures) c.put.ensures)
