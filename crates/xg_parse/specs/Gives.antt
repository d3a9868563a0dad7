-- What a reader of the code gives, seen as what the reading of a rule gives. No public clause cites this module.
use Rattle.std.specs.Prelude.{◌≡◌, ℕ, Option, Result, Ok, Err, unwrap_or, ⊤}
use Rattle.std.specs.Option.{option_copied}
use Rattle.std.specs.Borrow.{Bor}
use Rattle.xg_lex.specs.declared.token.Token.{Token}
use Rattle.xg_parse.specs.declared.cursor.Cursor.{Cursor}
use Rattle.xg_parse.specs.declared.cursor.Stop.{Stop}
use Rattle.xg_parse.specs.declared.cursor.Stop.TheVariants.{Memory, Refused}
use Rattle.xg_parse.specs.declared.terminal.Terminal.TheVariants as terms
use Rattle.xg_parse.specs.declared.fault.ParseFault.{ParseFault}
use Rattle.xg_parse.specs.Rules.{Rule}
use Rattle.xg_parse.specs.Reading.{Place, Read, read_rule}
use Rattle.xg_lex.specs.declared.token.Tokens.{Tokens}
use Rattle.xg_parse.specs.declared.tree.Tree.{Tree}
use Rattle.xg_parse.specs.declared.fault.ParseFault.TheVariants.{Unexpected, OutByName, OutOfMemory}
use Rattle.xg_parse.specs.Grammar.{IsTreeOf}
use Rattle.xg_parse.specs.Refusals.{fault_before, IsFirstRefusal}

-- the place at which a cursor stands
abbrev pub cursor_place : Cursor → Place
cursor_place c = record { rest = c.rest.now; next = c.next; tried = c.tried }

-- a reader stopped rightly: the reading is refused at its place, or there was no memory
abbrev pub Fails : {A : Type 0} → Stop → Read A → Type 0
Fails Memory reading = ⊤
Fails (Refused c) reading = reading ≡ Err (cursor_place c)

-- what is read, unless there is no memory
abbrev pub Gives : {X A : Type 0} → (X → A × Place) → Result X Stop → Read A → Type 0
Gives view (Ok x) reading = reading ≡ Ok (view x)
Gives view (Err e) reading = Fails e reading

-- what the reading of the rule from that place gives
abbrev pub IsReadingOf : {A : Type 0} → Rule A → Cursor → Result (A × Cursor) Stop → Type 0
IsReadingOf rule cursor result = Gives (λ x. (x.0, cursor_place x.1)) result (read_rule rule (cursor_place cursor))

-- the same of a token
abbrev pub IsTokenOf : Rule Token → Cursor → Result (Bor Token × Cursor) Stop → Type 0
IsTokenOf rule cursor result = Gives (λ x. (x.0.now, cursor_place x.1)) result (read_rule rule (cursor_place cursor))

-- and of a token that can be missing
abbrev pub IsTokenIfThere : Rule (Option Token) → Cursor → Result (Option (Bor Token) × Cursor) Stop → Type 0
IsTokenIfThere rule cursor result =
    Gives (λ x. (option_copied x.0, cursor_place x.1)) result (read_rule rule (cursor_place cursor))

-- the fault of a place where the reading stopped
abbrev pub place_fault : Place → ℕ → ParseFault
place_fault p last = fault_before p.rest last (unwrap_or p.tried terms.Package)

-- the answer is right, if it isn't that there is no memory
abbrev pub IsParsed : Tokens → Result Tree ParseFault → Type 0
IsParsed tokens (Ok tree) = IsTreeOf tokens.items tree
IsParsed tokens (Err (Unexpected line want)) = IsFirstRefusal tokens (Unexpected line want)
IsParsed tokens (Err (OutByName line word)) = IsFirstRefusal tokens (OutByName line word)
IsParsed tokens (Err OutOfMemory) = ⊤
