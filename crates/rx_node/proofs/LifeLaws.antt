-- What holds of every life, and of every turn of one.
use Rattle.std.proofs.Common.{◌≡◌, ℤ, Bool, true, false, Option, refl, ◌∙◌, ap, sym}
use Rattle.std.proofs.lemmas.Bool.{false≢true}
use Rattle.rx_model.specs.declared.answers.End.{End}
use Rattle.rx_rules.specs.After.{is_zero}
use Rattle.rx_rules.specs.Life.{Life, after_finish, is_active, is_live}
use Rattle.rx_rules.specs.Life as lives
use Rattle.rx_model.proofs.NameLaws.{refuted}
use Rattle.rx_history.proofs.LifeFalls.{Falls, accept_falls, acks_falls, cancel_falls, code_falls, end_falls}
use Rattle.rx_history.proofs.LifeFalls.{finish_falls}
use Rattle.rx_history.proofs.LifeFalls.{gone_falls, later_falls, silence_falls}
use Rattle.rx_node.specs.declared.life.Turn.{Turn}
use Rattle.rx_node.specs.declared.life.Turn.TheVariants as turns
use Rattle.rx_node.specs.Lives.{after_turn, is_of}

-- one that is active lives
pub live_if_active : (x : Life) → is_active x ≡ true → is_live x ≡ true
live_if_active lives.Calling is = refl
live_if_active (lives.Ended end) is = absurd (cc (is))
live_if_active lives.Waiting is = refl
live_if_active lives.Accepted is = refl
live_if_active lives.Finished is = refl
live_if_active (lives.Broken code) is = absurd (cc (is))
live_if_active (lives.Over code) is = absurd (cc (is))

-- so one that ended isn't active
pub not_active : (x : Life) → is_live x ≡ false → is_active x ≡ false
not_active x ended = refuted (is_active x) (λ active. false≢true (sym ended ∙ live_if_active x active))

-- ---- turns

-- a life falls
pub turn_falls : (turn : Turn) (x : Life) → Falls x (after_turn turn x)
turn_falls (turns.Code code) x = code_falls code x
turn_falls (turns.Silence silence) x = silence_falls silence x
turn_falls turns.Later x = later_falls x
turn_falls (turns.Acks all) x = acks_falls all x
turn_falls turns.Accept x = accept_falls x
turn_falls (turns.Finish code) x = finish_falls (is_zero code) code x
turn_falls turns.Gone x = gone_falls x
turn_falls (turns.End end) x = end_falls end x
turn_falls (turns.Cancel code) x = cancel_falls code x

-- one that ended stays
over-stays : (turn : Turn) (code : Option ℤ) → after_turn turn (lives.Over code) ≡ lives.Over code
over-stays (turns.Code code) before = refl
over-stays (turns.Silence silence) before = refl
over-stays turns.Later before = refl
over-stays (turns.Acks true) before = refl
over-stays (turns.Acks false) before = refl
over-stays turns.Accept before = refl
over-stays (turns.Finish code) before = finish-over (is_zero code) code before
  where
    finish-over : (b : Bool) (code : ℤ) (before : Option ℤ)
        → after_finish b code (lives.Over before) ≡ lives.Over before
    finish-over true code before = refl
    finish-over false code before = refl
over-stays turns.Gone before = refl
over-stays (turns.End true) before = refl
over-stays (turns.End false) before = refl
over-stays (turns.Cancel code) before = refl

ended-stays : (turn : Turn) (end : End) → after_turn turn (lives.Ended end) ≡ lives.Ended end
ended-stays (turns.Code code) end = refl
ended-stays (turns.Silence silence) end = refl
ended-stays turns.Later end = refl
ended-stays (turns.Acks true) end = refl
ended-stays (turns.Acks false) end = refl
ended-stays turns.Accept end = refl
ended-stays (turns.Finish code) end = finish-ended (is_zero code) code end
  where
    finish-ended : (b : Bool) (code : ℤ) (end : End) → after_finish b code (lives.Ended end) ≡ lives.Ended end
    finish-ended true code end = refl
    finish-ended false code end = refl
ended-stays turns.Gone end = refl
ended-stays (turns.End true) end = refl
ended-stays (turns.End false) end = refl
ended-stays (turns.Cancel code) end = refl

pub turn_ended : (turn : Turn) (x : Life) → is_live x ≡ false → after_turn turn x ≡ x
turn_ended turn lives.Calling ended = absurd (cc (ended))
turn_ended turn (lives.Ended end) ended = ended-stays turn end
turn_ended turn lives.Waiting ended = absurd (cc (ended))
turn_ended turn lives.Accepted ended = absurd (cc (ended))
turn_ended turn lives.Finished ended = absurd (cc (ended))
turn_ended turn (lives.Broken code) ended = absurd (cc (ended))
turn_ended turn (lives.Over code) ended = over-stays turn code

-- ---- each at its end

calling-turns : (turn : Turn) → is_of true (after_turn turn lives.Calling) ≡ true
calling-turns (turns.Code code) = refl
calling-turns (turns.Silence silence) = refl
calling-turns turns.Later = refl
calling-turns (turns.Acks true) = refl
calling-turns (turns.Acks false) = refl
calling-turns turns.Accept = refl
calling-turns (turns.Finish code) = of (is_zero code) code
  where
    of : (b : Bool) (code : ℤ) → is_of true (after_finish b code lives.Calling) ≡ true
    of true code = refl
    of false code = refl
calling-turns turns.Gone = refl
calling-turns (turns.End true) = refl
calling-turns (turns.End false) = refl
calling-turns (turns.Cancel code) = refl

waiting-turns : (turn : Turn) → is_of false (after_turn turn lives.Waiting) ≡ true
waiting-turns (turns.Code code) = refl
waiting-turns (turns.Silence silence) = refl
waiting-turns turns.Later = refl
waiting-turns (turns.Acks true) = refl
waiting-turns (turns.Acks false) = refl
waiting-turns turns.Accept = refl
waiting-turns (turns.Finish code) = of (is_zero code) code
  where
    of : (b : Bool) (code : ℤ) → is_of false (after_finish b code lives.Waiting) ≡ true
    of true code = refl
    of false code = refl
waiting-turns turns.Gone = refl
waiting-turns (turns.End true) = refl
waiting-turns (turns.End false) = refl
waiting-turns (turns.Cancel code) = refl

accepted-turns : (turn : Turn) → is_of false (after_turn turn lives.Accepted) ≡ true
accepted-turns (turns.Code code) = refl
accepted-turns (turns.Silence silence) = refl
accepted-turns turns.Later = refl
accepted-turns (turns.Acks true) = refl
accepted-turns (turns.Acks false) = refl
accepted-turns turns.Accept = refl
accepted-turns (turns.Finish code) = of (is_zero code) code
  where
    of : (b : Bool) (code : ℤ) → is_of false (after_finish b code lives.Accepted) ≡ true
    of true code = refl
    of false code = refl
accepted-turns turns.Gone = refl
accepted-turns (turns.End true) = refl
accepted-turns (turns.End false) = refl
accepted-turns (turns.Cancel code) = refl

finished-turns : (turn : Turn) → is_of false (after_turn turn lives.Finished) ≡ true
finished-turns (turns.Code code) = refl
finished-turns (turns.Silence silence) = refl
finished-turns turns.Later = refl
finished-turns (turns.Acks true) = refl
finished-turns (turns.Acks false) = refl
finished-turns turns.Accept = refl
finished-turns (turns.Finish code) = of (is_zero code) code
  where
    of : (b : Bool) (code : ℤ) → is_of false (after_finish b code lives.Finished) ≡ true
    of true code = refl
    of false code = refl
finished-turns turns.Gone = refl
finished-turns (turns.End true) = refl
finished-turns (turns.End false) = refl
finished-turns (turns.Cancel code) = refl

broken-turns : (turn : Turn) (before : ℤ) → is_of false (after_turn turn (lives.Broken before)) ≡ true
broken-turns (turns.Code code) before = refl
broken-turns (turns.Silence silence) before = refl
broken-turns turns.Later before = refl
broken-turns (turns.Acks true) before = refl
broken-turns (turns.Acks false) before = refl
broken-turns turns.Accept before = refl
broken-turns (turns.Finish code) before = of (is_zero code) code before
  where
    of : (b : Bool) (code : ℤ) (before : ℤ) → is_of false (after_finish b code (lives.Broken before)) ≡ true
    of true code before = refl
    of false code before = refl
broken-turns turns.Gone before = refl
broken-turns (turns.End true) before = refl
broken-turns (turns.End false) before = refl
broken-turns (turns.Cancel code) before = refl

-- a life turns to one of its kind of node
pub turn_of : (client : Bool) (turn : Turn) (x : Life) → is_of client x ≡ true → is_of client (after_turn turn x) ≡ true
turn_of true turn lives.Calling is = calling-turns turn
turn_of true turn (lives.Ended end) is = ap (is_of true) (ended-stays turn end)
turn_of true turn lives.Waiting is = absurd (cc (is))
turn_of true turn lives.Accepted is = absurd (cc (is))
turn_of true turn lives.Finished is = absurd (cc (is))
turn_of true turn (lives.Broken code) is = absurd (cc (is))
turn_of true turn (lives.Over code) is = absurd (cc (is))
turn_of false turn lives.Calling is = absurd (cc (is))
turn_of false turn (lives.Ended end) is = absurd (cc (is))
turn_of false turn lives.Waiting is = waiting-turns turn
turn_of false turn lives.Accepted is = accepted-turns turn
turn_of false turn lives.Finished is = finished-turns turn
turn_of false turn (lives.Broken code) is = broken-turns turn code
turn_of false turn (lives.Over code) is = ap (is_of false) (over-stays turn code)
