-- Events that change no look-ups: a read and a write of no bytes.
use Rattle.std.proofs.Common.{◌≡◌, ◌++◌, ℕ, if◌then◌else◌, Bool, true, false, List, [], ◌∷◌, map, nat_lt}
use Rattle.std.proofs.Common.{Option, refl, ◌∙◌, ap, arith}
use Rattle.std.proofs.lemmas.Bool.Decides.{nat_tests}
use Rattle.rx_model.specs.declared.names.CallName.{CallName}
use Rattle.rx_model.specs.Names.{channel_of, same_name}
use Rattle.rx_rules.specs.After.{acknowledged, read_done}
use Rattle.rx_rules.specs.CallLooks.{CallLooks, after_read, after_write}
use Rattle.rx_rules.specs.Life.{after_end}
use Rattle.rx_rules.specs.Looks.{CallRecord, Looks, on_call, on_looks}
use Rattle.rx_rules.specs.Owing.{Owed, owed_for_done, owed_for_read}
use Rattle.rx_rules.specs.Received.{Received, used_of}
use Rattle.rx_rules.specs.Received as packets
use Rattle.rx_rules.proofs.CallsLaws.{changed_if}
use Rattle.rx_node.proofs.ChannelChanges.{channel_same}
use Rattle.rx_node.proofs.Steps.ReadSteps.{not-ended}

-- ---- nothing changes

-- a change that leaves each call as it was
pub calls_stay : (c : CallName) (f : CallRecord → CallRecord) (l : Looks) → ((k : CallRecord) → f k ≡ k)
    → on_call c f l ≡ l
calls_stay c f l same = ap (λ (ks : List CallRecord). record l { calls = ks }) (all l.calls)
  where
    one : (k : CallRecord) (b : Bool) → (if b then f k else k) ≡ k
    one k true = same k
    one k false = refl

    all : (ks : List CallRecord) → map (changed_if c f) ks ≡ ks
    all [] = refl
    all (k ∷ ks) =
        ap (λ (j : CallRecord). j ∷ map (changed_if c f) ks) (one k (same_name k.name c))
        ∙ ap (λ (js : List CallRecord). k ∷ js) (all ks)

pub nothing-behind : (xs : List ℕ) → xs ++ [] ≡ xs
nothing-behind [] = refl
nothing-behind (x ∷ xs) = ap (λ (ys : List ℕ). x ∷ ys) (nothing-behind xs)

-- a write that accepts no bytes
pub write_nothing : (c : CallName) (l : Looks) → on_looks c (after_write []) l ≡ l
write_nothing c l =
    calls_stay c (λ k. record k { looks = after_write [] k.looks }) l
    (λ k i. record k {
      looks =
          record k.looks { sent = record k.looks.sent { said = nothing-behind k.looks.sent.said i } };
    })

read-same : (r : Received) → packets.after_read false [] r ≡ r
read-same r = λ i. record r { read = nothing-behind r.read i }

pub owed-same : (now : ℕ) (prompt : Bool) (n : ℕ) (owed : Option Owed) → owed_for_read now prompt n n owed ≡ owed
owed-same now prompt n owed =
    ap (λ (b : Bool). if b then owed_for_done now prompt owed else owed) (not-below n)
  where
    not-below : (n : ℕ) → nat_lt n n ≡ false
    not-below n = grind (arith, nat_tests)

looks-same : (now : ℕ) (k : CallLooks) → after_read now false [] k ≡ k
looks-same now k =
    (λ i. record k {
      received = read-same k.received i;
      owed_ack =
          owed_for_read now k.cwnd.prompt (used_of k.received)
          (used_of (read-same k.received i)) k.owed_ack;
    })
    ∙ ap (λ (o : Option Owed). record k { owed_ack = o }) (owed-same now
    k.cwnd.prompt (used_of k.received) k.owed_ack)

-- a read that gives no bytes and tells no end
pub read_nothing : (c : CallName) (l : Looks) → read_done c false [] l ≡ l
read_nothing c l =
    calls_stay c (λ k. record k { life = after_end false k.life })
    (on_looks c (after_read l.now false []) (acknowledged false c l))
    (λ k i. record k { life = not-ended k.life i })
    ∙ calls_stay c (λ k. record k { looks = after_read l.now false [] k.looks }) (acknowledged false c l)
    (λ k i. record k { looks = looks-same l.now k.looks i })
    ∙ channel_same (channel_of c) (λ q. q) l (λ q. refl)
