use Rattle.std.proofs.Common.{append_assoc, SFits, w64, rules}
use Rattle.std.proofs.lemmas.Int.{to_z-of_z}
use Rattle.commands.proofs.Parts.{four_parts}
use Rattle.commands.proofs.faults.put_list_fault.Goals as goal

pub returns-in-Kinds-clause-text : goal.returns-in-Kinds-clause-text
returns-in-Kinds-clause-text c =
    rw (c.in-Kinds.is, c.put_number-in-Kinds.ensures, c.put_text-in-Kinds.ensures, c.from.ensures, append_assoc)

pub returns-in-OutOfRange-clause-text : goal.returns-in-OutOfRange-clause-text
returns-in-OutOfRange-clause-text c =
    let fits : SFits w64 c.in-OutOfRange.value = search rules in
    let signed = simp to_z-of_z at c.put_signed.ensures in
    rw c.in-OutOfRange.is
    (four_parts _ _ _ _ _ _ _ _ _ c.put_text-in-OutOfRange.ensures c.put_field-in-OutOfRange.ensures.text
    c.put_text-in-OutOfRange-2.ensures signed)

pub returns-in-NoRequestData-clause-text : goal.returns-in-NoRequestData-clause-text
returns-in-NoRequestData-clause-text c =
    let number = c.put_number-in-NoRequestData.ensures in
    rw
    (c.in-NoRequestData.is, number, c.put_text-in-NoRequestData.ensures, c.from-in-NoRequestData.ensures, append_assoc)
