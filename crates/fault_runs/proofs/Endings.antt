-- Texts that are written one after another, and how they end where they are not written whole.
use Rattle.fault_runs.proofs.Words.{◌≡◌, ℕ, List, [], ◌∷◌, ◌++◌, refl, ap, sym, ◌∙◌, append_assoc, append-nil, Result}
use Rattle.fault_runs.proofs.Words.{Ok, Err, IfErr, Output, WroteLines, Lines, Wrote-none, Wrote-join, CampaignFault}
use Rattle.fault_runs.proofs.Words.{WroteFewer, LeftBy, LeftFewerBy}
use Rattle.ttp_base.specs.Outside.{CutShort}
use Rattle.ttp_base.proofs.Outputs.{CutShort-after, CutShort-more}
use Rattle.fault_runs.specs.declared.put.CampaignFault.TheVariants as fault
use Rattle.fault_runs.specs.Ends.{WroteFront}

-- nothing was written
pub front-none : (o : Output) (lines : Lines) → WroteFront o o lines
front-none o lines = record { whole = []; rest = lines; text = refl; wrote = Wrote-none o }

pub fewer-none : (o : Output) (line : List ℕ) (rest : Lines) → WroteFewer o o (line ∷ rest)
fewer-none o line rest = record { whole = []; next = line; rest = rest; text = refl; wrote = Wrote-none o }

-- behind lines that were written
pub leaves-after : (why : CampaignFault) (a b c : Output) (x y : Lines) → WroteLines a b x → LeftBy why b c y
    → LeftBy why a c (x ++ y)
leaves-after fault.Failed a b c x y wrote cut = CutShort-after a b c x y wrote cut
leaves-after fault.Memory a b c x y wrote front = record {
  whole = x ++ front.whole;
  rest = front.rest;
  text = ap (λ (lines : Lines). x ++ lines) front.text ∙ sym (append_assoc x front.whole front.rest);
  wrote = Wrote-join a b c x front.whole wrote front.wrote;
}

pub fewer-after : (why : CampaignFault) (a b c : Output) (x y : Lines) → WroteLines a b x → LeftFewerBy why b c y
    → LeftFewerBy why a c (x ++ y)
fewer-after fault.Failed a b c x y wrote cut = CutShort-after a b c x y wrote cut
fewer-after fault.Memory a b c x y wrote few = record {
  whole = x ++ few.whole;
  next = few.next;
  rest = few.rest;
  text = ap (λ (lines : Lines). x ++ lines) few.text ∙ sym (append_assoc x few.whole (few.next ∷ few.rest));
  wrote = Wrote-join a b c x few.whole wrote few.wrote;
}

-- with more lines behind them
pub leaves-more : (why : CampaignFault) (a c : Output) (x y : Lines) → LeftBy why a c x → LeftBy why a c (x ++ y)
leaves-more fault.Failed a c x y cut = CutShort-more a c x y cut
leaves-more fault.Memory a c x y front = record {
  whole = front.whole;
  rest = front.rest ++ y;
  text = ap (λ (lines : Lines). lines ++ y) front.text ∙ append_assoc front.whole front.rest y;
  wrote = front.wrote;
}

pub fewer-more : (why : CampaignFault) (a c : Output) (x y : Lines) → LeftFewerBy why a c x
    → LeftFewerBy why a c (x ++ y)
fewer-more fault.Failed a c x y cut = CutShort-more a c x y cut
fewer-more fault.Memory a c x y few = record {
  whole = few.whole;
  next = few.next;
  rest = few.rest ++ y;
  text = ap (λ (lines : Lines). lines ++ y) few.text ∙ append_assoc few.whole (few.next ∷ few.rest) y;
  wrote = few.wrote;
}

-- with at least one line behind them they are never all

front-is_fewer : (a c : Output) (x whole rest : Lines) (line : List ℕ) (y : Lines) → x ≡ whole ++ rest
    → WroteLines a c whole → WroteFewer a c (x ++ line ∷ y)
front-is_fewer a c x whole [] line y text wrote = record {
  whole = whole;
  next = line;
  rest = y;
  text = ap (λ (lines : Lines). lines ++ line ∷ y) (text ∙ append-nil whole);
  wrote = wrote;
}
front-is_fewer a c x whole (next ∷ rest) line y text wrote = record {
  whole = whole;
  next = next;
  rest = rest ++ line ∷ y;
  text = ap (λ (lines : Lines). lines ++ line ∷ y) text ∙ append_assoc whole (next ∷ rest) (line ∷ y);
  wrote = wrote;
}

pub more-is_fewer : (why : CampaignFault) (a c : Output) (x : Lines) (line : List ℕ) (y : Lines)
    → LeftBy why a c x → LeftFewerBy why a c (x ++ line ∷ y)
more-is_fewer fault.Failed a c x line y cut = CutShort-more a c x (line ∷ y) cut
more-is_fewer fault.Memory a c x line y front =
    front-is_fewer a c x front.whole front.rest line y front.text front.wrote

-- what a result that names the fault says of it

pub err-cut : {T : Type 0} (r : Result T CampaignFault) (a c : Output) (lines : Lines)
    → IfErr r (λ (why : CampaignFault). LeftFewerBy why a c lines) → r ≡ Err fault.Failed → CutShort a c lines
err-cut (Ok x) a c lines left same = cc
err-cut (Err fault.Failed) a c lines left same = left
err-cut (Err fault.Memory) a c lines left same = cc

pub err-fewer : {T : Type 0} (r : Result T CampaignFault) (a c : Output) (lines : Lines)
    → IfErr r (λ (why : CampaignFault). LeftFewerBy why a c lines) → r ≡ Err fault.Memory → WroteFewer a c lines
err-fewer (Ok x) a c lines left same = cc
err-fewer (Err fault.Failed) a c lines left same = cc
err-fewer (Err fault.Memory) a c lines left same = left
