-- What a script while it is read stands for. No public clause cites this module.
use Rattle.std.specs.Prelude.{List, map, option_map, string_bytes}
use Rattle.rx_script.specs.declared.script_rows.Marked.{Marked as CodeMarked}
use Rattle.rx_script.specs.declared.script_reader.Opened.{Opened as CodeOpened}
use Rattle.rx_script.specs.declared.script_reader.Draft.{Draft as CodeDraft}
use Rattle.rx_script.specs.Saying.{Saying, saying_of, blocks_of}
use Rattle.rx_script.specs.Scripts.{Marked, sayings, Opened, Draft}

-- a line of a block under way, with its number
abbrev pub marked_of : CodeMarked → Marked
marked_of l = (l.line, saying_of l.what)

-- the lines before it, without their numbers
abbrev pub before_of : List CodeMarked → List Saying
before_of ls = sayings (map marked_of ls)

-- the block under way
abbrev pub opened_of : CodeOpened → Opened
opened_of b = record {
  place = b.place;
  name = string_bytes b.proc;
  split = b.split;
  lines = map marked_of b.lines.items;
}

-- a script under way: the blocks that are closed, and the open one
abbrev pub draft_of : CodeDraft → Draft
draft_of d = record { done = blocks_of d.done.items; block = option_map opened_of d.block }
