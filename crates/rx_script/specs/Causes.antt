-- The words of causes as they are printed. Public clauses cite this module.
use Rattle.std.specs.Prelude.{ℕ, List, codes}
use Rattle.rx_script.specs.declared.fault.LineWhy.{LineWhy}
use Rattle.rx_script.specs.declared.fault.LineWhy.TheVariants as whys
use Rattle.rx_script.specs.declared.outcome.PlanWhy.{PlanWhy}
use Rattle.rx_script.specs.declared.outcome.PlanWhy.TheVariants as causes

-- why a line isn't taken
abbrev pub line_why_text : LineWhy → List ℕ
line_why_text whys.Word = codes "word"
line_why_text whys.Proc = codes "proc"
line_why_text whys.Number = codes "number"
line_why_text whys.Arg = codes "arg"
line_why_text whys.Json = codes "json"
line_why_text whys.Kind = codes "kind"
line_why_text whys.Twice = codes "twice"
line_why_text whys.TooMany = codes "toomany"

-- why a line is refused as it runs
abbrev pub plan_why_text : PlanWhy → List ℕ
plan_why_text causes.Late = codes "late"
plan_why_text causes.NoNode = codes "nonode"
plan_why_text causes.NoCall = codes "nocall"
plan_why_text causes.NoPacket = codes "nopacket"
plan_why_text causes.Jumbo = codes "jumbo"
plan_why_text causes.ClockBack = codes "clockback"
plan_why_text causes.Slots = codes "slots"
plan_why_text causes.Bag = codes "bag"
