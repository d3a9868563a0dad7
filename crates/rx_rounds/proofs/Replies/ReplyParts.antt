-- Small facts of a reply as it is written: bursts, its writer, and what was said.
use Rattle.std.proofs.Common.{◌≡◌, ◌<◌, ◌≤◌, ◌+◌, ◌-◌, ◌*◌, ◌++◌, ℕ}
use Rattle.std.proofs.Common.{suc, Bool, true, false, List, [], ◌∷◌, refl, ap, sym, ◌∙◌}
use Rattle.std.proofs.Common.{length, arith, append-nil}
use Rattle.std.proofs.lemmas.Bool.{both_ways}
use Rattle.std.proofs.lemmas.List.{length-append}
use Rattle.rx_model.specs.Message.{Message}
use Rattle.rx_rules.specs.CallLooks.{CallLooks}
use Rattle.rx_rules.specs.Life.{Life, is_active, is_live}
use Rattle.rx_rules.specs.Sent.{Sent, pieces_by}
use Rattle.rx_jobs.specs.Handlers.{Handlers}
use Rattle.rx_jobs.specs.Jobs.{JobState}
use Rattle.rx_rounds.proofs.Between.{Answering_}
use Rattle.rx_rounds.proofs.Between.{finished, writes}
use Rattle.rx_rounds.proofs.Exchange.{Burst, a_piece, no_piece}
use Rattle.rx_rounds.proofs.One.OneCall.{Ends}
use Rattle.rx_rounds.proofs.One.OneWay.{Sends}
use Rattle.rx_rounds.proofs.Serving.SaidMore.{said_more, sends_said, sends_same, sent_more}
use Rattle.rx_rounds.proofs.Takes.Taking.{burst_more}

-- a burst that brings pieces has messages, and one that brings none has none
pub burst_some : (frame : Message) (client : Bool) (whole : List ℕ) (n m : ℕ) (ms : List Message)
    → Burst frame client whole n m ms → n < m → 1 ≤ length ms
burst_some frame client whole n m ms (no_piece i) less = absurd (omega arith)
burst_some frame client whole n m ms (a_piece i j serial asking others fits asks rest) less = omega arith

pub burst_none : (frame : Message) (client : Bool) (whole : List ℕ) (n m : ℕ) (ms : List Message)
    → Burst frame client whole n m ms → m ≤ n → length ms ≡ 0
burst_none frame client whole n m ms (no_piece i) all = refl
burst_none frame client whole n m ms (a_piece i j serial asking others fits asks rest) all =
    absurd (let more : suc n ≤ m = burst_more frame client whole (suc n) m others rest in omega arith)

-- the life of a call whose reply is written
pub answering_lives : (x : Ends) (g : Handlers) (request said : List ℕ) (shut : Bool) (rest : List ℕ) (life : Life)
    (js : List JobState)
    → Answering_ x g request said shut rest life js → (is_active life ≡ true) × (is_live life ≡ true)
answering_lives x g request said shut rest life js (writes steps going some) = (refl, refl)
answering_lives x g request said shut rest life js (finished closed none) = (refl, refl)

-- its reply is written whole where it is shut, and shut where nothing is left to write
pub answering_ends : (x : Ends) (g : Handlers) (request said : List ℕ) (shut : Bool) (rest : List ℕ) (life : Life)
    (js : List JobState)
    → Answering_ x g request said shut rest life js → shut ≡ true → rest ≡ []
answering_ends x g request said shut rest life js (writes steps going some) closed = absurd
    (both_ways shut going closed)
answering_ends x g request said shut rest life js (finished closed2 none) closed = none

pub answering_shut : (x : Ends) (g : Handlers) (request said : List ℕ) (shut : Bool) (rest : List ℕ) (life : Life)
    (js : List JobState)
    → Answering_ x g request said shut rest life js → length rest ≡ 0 → shut ≡ true
answering_shut x g request said shut rest life js (writes steps going some) none = absurd (omega arith)
answering_shut x g request said shut rest life js (finished closed empty) none = closed

module _ (whole : List ℕ) (since a n : ℕ) (k : CallLooks) where
  -- an end that said more, or shut its stream
  pub sends_on : Sends whole since a n k → (more left : List ℕ) (shut : Bool) → whole ≡ (k.sent.said ++ more) ++ left
      → (shut ≡ true → left ≡ []) → (k.sent.shut ≡ true → shut ≡ true) → length (k.sent.said ++ more) ≤ 1412 * (a + 32)
      → Sends whole since a n (said_more more shut k)
  sends_on h more left shut split ends keeps within = by k.sent.shut refl
    where
      by : (b : Bool) → k.sent.shut ≡ b → Sends whole since a n (said_more more shut k)
      by false going = sends_said whole since a n k h going more left shut split ends within
      by true closed =
          let none : h.rest ≡ [] = h.shut closed in
          let long : length whole ≡ length k.sent.said + length h.rest =
          ap (λ (ys : List ℕ). length ys) h.said ∙ length-append k.sent.said h.rest in
          let long2 : length whole ≡ length (k.sent.said ++ more) + length left =
          ap (λ (ys : List ℕ). length ys) split ∙ length-append (k.sent.said ++ more) left in
          let long3 : length (k.sent.said ++ more) ≡ length k.sent.said + length more = length-append k.sent.said
          more in
          let zero_ : length h.rest ≡ 0 = ap (λ (ys : List ℕ). length ys) none in
          let empty : more ≡ [] = nothing more (omega arith) in
          sends_same whole since a n k (said_more more shut k)
          (ap (λ (ys : List ℕ). sent_more ys shut k.sent) empty ∙ ap (λ (b : Bool). sent_more [] b k.sent)
          (keeps closed ∙ sym closed) ∙ ap (λ (ys : List ℕ). record k.sent { said = ys }) (append-nil k.sent.said)) refl
          refl h
        where
          nothing : (ys : List ℕ) → length ys ≡ 0 → ys ≡ []
          nothing [] none = refl
          nothing (y ∷ ys) none = absurd (omega arith)

-- what a stream said fits where few pieces are held
pub room_held : (s : Sent) (a : ℕ) → s.acked ≡ a → pieces_by (length s.said) s.shut - s.acked ≤ 32
    → length s.said ≤ 1412 * (a + 32)
room_held s a acked few = by s.shut few
  where
    by : (b : Bool) → pieces_by (length s.said) b - s.acked ≤ 32 → length s.said ≤ 1412 * (a + 32)
    by true low = omega (arith, acked)
    by false low = omega (arith, acked)
