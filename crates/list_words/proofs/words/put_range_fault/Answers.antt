use Rattle.list_words.specs.Words.{list_fault_name}
use Rattle.list_words.proofs.words.put_range_fault.Goals as goal

pub returns : goal.returns
unfolding list_fault_name
returns c = c.put_field_value.ensures
