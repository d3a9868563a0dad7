-- A read that is answered Got gives bytes.
use Rattle.std.proofs.Common.{◌≡◌, ◌≤◌, ℕ, zero, suc, Bool, true, false, List, [], ◌∷◌, length}
use Rattle.std.proofs.Common.{Option, Some, None, refl, sym, subst, arith}
use Rattle.rx_model.specs.declared.answers.End.TheVariants as ends
use Rattle.rx_model.specs.declared.answers.ReadAns.{ReadAns}
use Rattle.rx_model.specs.declared.answers.ReadAns.TheVariants as answers
use Rattle.rx_rules.specs.Life.{Life}
use Rattle.rx_rules.specs.Life as lives
use Rattle.rx_rules.specs.Looks.{CallRecord}
use Rattle.rx_rules.specs.Received.{is_complete, read_from, unread_of}
use Rattle.rx_rules.specs.Rules.{client_read, client_read_by, client_read_got, own_call}
use Rattle.rx_asks.specs.History.{ReadsGiveBytes}

-- where the answer is Got there are bytes
abbrev Gives : ReadAns × List ℕ → Type 0
Gives got = (n : ℕ) → got.0 ≡ answers.Got n → 1 ≤ length got.1

from-gives : (max : ℕ) (left : List ℕ) (complete : Bool) → 1 ≤ max
    → Gives (client_read_got (read_from max left complete).0, (read_from max left complete).1)
from-gives max [] true some n is = absurd cc
from-gives max [] false some n is = absurd cc
from-gives zero (x ∷ xs) complete some n is = absurd (omega arith)
from-gives (suc max) (x ∷ xs) complete some n is = omega arith

by-gives : (life : Life) (max : ℕ) (left : List ℕ) (complete : Bool) → 1 ≤ max
    → Gives (client_read_by life (read_from max left complete))
by-gives (lives.Ended ends.Ok) max left complete some n is = absurd cc
by-gives (lives.Ended (ends.Abort code)) max left complete some n is = absurd cc
by-gives (lives.Ended (ends.Dead silence)) max left complete some n is = absurd cc
by-gives (lives.Ended (ends.Cancelled code)) max left complete some n is = absurd cc
by-gives lives.Calling max left complete some n is = from-gives max left complete some n is
by-gives lives.Waiting max left complete some n is = from-gives max left complete some n is
by-gives lives.Accepted max left complete some n is = from-gives max left complete some n is
by-gives lives.Finished max left complete some n is = from-gives max left complete some n is
by-gives (lives.Broken code) max left complete some n is = from-gives max left complete some n is
by-gives (lives.Over code) max left complete some n is = from-gives max left complete some n is

read-gives : (o : Option CallRecord) (max : ℕ) → 1 ≤ max → Gives (client_read o max)
read-gives None max some n is = absurd cc
read-gives (Some k) max some n is =
    by-gives k.life max (unread_of k.looks.received) (is_complete k.looks.received) some n is

-- so does each of a client
pub reads_give : ReadsGiveBytes
reads_give s host epoch l c max n bytes allowed =
    let gives : Gives (answers.Got n, bytes) =
    subst Gives (sym allowed.1) (read-gives (own_call l c) max allowed.0) in gives n refl
