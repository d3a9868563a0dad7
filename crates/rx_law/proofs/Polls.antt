-- What a server knows of a call behind a poll.
use Rattle.std.proofs.Common.{◌≡◌, ◌⊎◌, ◌≤◌, ℕ, if◌then◌else◌, Bool, true, false, List, drop}
use Rattle.std.proofs.Common.{Option, Some, None, Result, Ok, Err, refl, ◌∙◌, ap, sym, subst, arith}
use Rattle.rx_model.specs.declared.answers.BadMsg.{BadMsg}
use Rattle.rx_model.specs.declared.names.CallName.{CallName}
use Rattle.rx_model.specs.declared.names.Host.{Host}
use Rattle.rx_rules.specs.After.{counted, given_body, given_by, given_message}
use Rattle.rx_model.specs.Body.{Body}
use Rattle.rx_model.specs.Body as bodies
use Rattle.rx_rules.specs.Items.{poll_answer}
use Rattle.rx_rules.specs.Looks.{Looks, conn_at}
use Rattle.rx_model.specs.Message.{Message}
use Rattle.rx_model.specs.Names.{connection_of, same_name}
use Rattle.rx_model.specs.Reading.{reading_of}
use Rattle.rx_rules.specs.Records.{silenced}
use Rattle.rx_rules.specs.Setup.{Setup, IsServer, named}
use Rattle.rx_model.specs.Strays.{is_stray}
use Rattle.rx_rules.proofs.ConnsLaws.{number_of}
use Rattle.rx_rules.proofs.KeepsLaws.{keeps-refl}
use Rattle.rx_model.proofs.NameLaws.{name_is, same_number}
use Rattle.rx_history.proofs.Conns.{Conns}
use Rattle.rx_history.proofs.Data.{some_pair}
use Rattle.rx_law.proofs.Firm.{firm-same, busy_of}
use Rattle.rx_law.proofs.Gives.{Given, none-given, other-given, own-given, poll-tells}
use Rattle.rx_law.proofs.Recalls.{Recalls, recalls-keeps}

-- ---- a poll

given-message : (s : Setup) (l : Looks) (to : Host) (bytes : List ℕ) (reading : Result Message BadMsg) (c : CallName)
    (u : ℕ)
    → reading_of bytes ≡ reading → 1 ≤ c.number
    → ((m : Message) → reading ≡ Ok m → named s to m ≡ c → (c.number
    ≡ number_of (conn_at l (connection_of c)) c.chan) ⊎ (busy_of (conn_at l (connection_of c)) c.chan
    ≡ Some c.number))
    → Recalls l c u → Given s l (given_message s to reading l) (Some (to, bytes)) c u
given-message s l to bytes (Err bad) c u reads some tells old =
    record {
      used = u;
      later = omega arith;
      recalls = old;
      begins = λ is. is;
      told = λ at given n is read name. absurd (
          let p = some_pair (to, bytes) (at, given) is in
          let out : ◌≡◌ {A = Result Message BadMsg} (Err bad) (Ok n) = sym reads
          ∙ ap (λ (q : Host × List ℕ). reading_of q.1) p ∙ read in
          cc (out));
    }
given-message s l to bytes (Ok m) c u reads some tells old = stray (is_stray m m.body) refl
  where
    d : CallName
    d = named s to m

    no-number : (n : Message) (body : Body) → is_stray n body ≡ true → n.number ≡ 0
    no-number n (bodies.Abort code) is = same_number n.number 0 is
    no-number n _ is = absurd cc

    same-ok : (a b : Message) → ◌≡◌ {A = Result Message BadMsg} (Ok a) (Ok b) → a ≡ b
    same-ok a b is = cc

    stray : (b : Bool) → is_stray m m.body ≡ b
        → Given s l (if b then record l { strays = drop 1 l.strays } else given_body (named s to m) m m.body
        (counted (connection_of (named s to m)) l)) (Some (to, bytes)) c u
    stray true is = (
        let k = keeps-refl c l in
        record {
          used = u;
          later = omega arith;
          recalls =
              recalls-keeps c l (record l { strays = drop 1 l.strays }) u
              (record { calls = k.calls; numbers = k.numbers; fours = k.fours })
              (firm-same c l (record l { strays = drop 1 l.strays }) refl refl) old;
          begins = λ there. there;
          told = λ at given n same read name. absurd (
              let p = some_pair (to, bytes) (at, given) same in
              let one : m ≡ n = same-ok m n (sym reads ∙ ap (λ (q : Host × List ℕ). reading_of q.1) p ∙ read) in
              let zero' : m.number ≡ 0 = no-number m m.body is in
              let number : m.number ≡ c.number = ap (λ (q : Message). q.number) one
              ∙ ap (λ (q : CallName). q.number) name in
              omega arith);
        })
    stray false is =
        (elim (same_name c (named s to m)) as (λ b. same_name c (named s to m) ≡ b
        → Given s l (given_body (named s to m) m m.body (counted (connection_of (named s to m)) l))
        (Some (to, bytes)) c u) [
          | true ↦ λ same. (
              let own : c ≡ named s to m = name_is c (named s to m) same in
              subst (λ (n : CallName). Given s l (given_body n m m.body (counted (connection_of n) l))
              (Some (to, bytes)) c u) own
              (own-given s c l to bytes m u old (tells m refl (sym own)) (sym own)))
          | false ↦ λ other. other-given s c l to bytes m (named s to m) u old reads refl other
        ]) refl

-- behind a poll
pub given-poll : (s : Setup) (l : Looks) (got : Option (Host × List ℕ)) (c : CallName) (u : ℕ) → IsServer s.kind
    → Conns s l → 1 ≤ c.number
    → got ≡ poll_answer s l → Recalls (silenced l) c u → Given s (silenced l) (given_by s got (silenced l)) got c u
given-poll s l None c u server conns some answer old = none-given s c (silenced l) u old
given-poll s l (Some (to, bytes)) c u server conns some answer old =
    given-message s (silenced l) to bytes (reading_of bytes) c u refl some
    (λ m reads name. poll-tells s (silenced l) l.strays to bytes m c server conns some (λ n is. (old.busy n is).0)
    (sym answer) reads name) old
