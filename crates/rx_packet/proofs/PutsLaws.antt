-- One write after another.
use Rattle.std.proofs.Common.{◌≡◌, ◌++◌, ℕ, Bool, List, take, ap, subst, ◌∙◌, append_assoc, arith}
use Rattle.std.proofs.lemmas.List.{length-append}
use Rattle.rx_model.specs.Body.{AckBody}
use Rattle.rx_model.specs.Spelling.{ack_bytes}
use Rattle.rx_packet.specs.Puts.{Puts}

-- a write behind a write
pub and_then : {old mid new : List ℕ} {at end last : ℕ} {first second : List ℕ} →
    Puts old mid at end first → Puts mid new end last second → Puts old new at last (first ++ second)
and_then {old} {mid} {new} {at} {end} {last} {first} {second} p q =
    record {
      size = omega (arith, p.size, q.size, length-append first second);
      front = q.front ∙ ap (λ (xs : List ℕ). xs ++ second) p.front ∙ append_assoc (take at old) first second;
      rest = λ place behind. q.rest place behind ∙ p.rest place (omega (arith, p.size, q.size));
    }

-- an ACK's bytes, by marks that are equal to its own
pub with_marks : {old new : List ℕ} {at end : ℕ} (a : AckBody) (marks : List Bool) →
    marks ≡ a.marks → Puts old new at end (ack_bytes (record a { marks = marks })) → Puts old new at end (ack_bytes a)
with_marks {old} {new} {at} {end} a marks same puts =
    subst (λ (xs : List Bool). Puts old new at end (ack_bytes (record a { marks = xs }))) same puts
