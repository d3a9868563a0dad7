use Rattle.std.proofs.Common.{append_assoc}
use Rattle.rx_top.proofs.wire_outcome.say_args.Goals as goal

pub returns-in-Proc : goal.returns-in-Proc
returns-in-Proc g c = rw c.in-Proc.is c.say.ensures

pub returns-in-Kind : goal.returns-in-Kind
returns-in-Kind g c = rw c.in-Kind.is c.say-in-Kind.ensures

pub returns-in-NotJson : goal.returns-in-NotJson
returns-in-NotJson g c = rw c.in-NotJson.is c.say-in-NotJson.ensures

pub returns-in-Mismatch : goal.returns-in-Mismatch
returns-in-Mismatch g c =
    let said = rw (c.as_str.ensures.value, c.as_str-in-Mismatch.ensures.value) at c.say-in-Mismatch.ensures in
    rw c.in-Mismatch.is (simp append_assoc said)

pub returns-in-Number : goal.returns-in-Number
returns-in-Number g c = rw c.in-Number.is c.say-in-Number.ensures
