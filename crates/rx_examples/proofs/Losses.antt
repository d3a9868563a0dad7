-- Worked examples of pieces that are lost on their way, at one end of a call of a prompt node.
use Rattle.std.specs.Prelude.{◌≡◌, ◌==◌, ◌*◌, ℕ, Bool, true, false, List, [], ◌∷◌, map, refl, replicate}
use Rattle.std.specs.Prelude.{Option, Some, None}
use Rattle.rx_model.specs.declared.answers.Took.TheVariants as tooks
use Rattle.rx_model.specs.declared.wire.TheConstants.{ACK_DELAY, ACK_OUT_OF_SEQUENCE, ACK_REQUESTED, LAST_PACKET}
use Rattle.rx_model.specs.declared.wire.TheConstants.{REQUEST_ACK}
use Rattle.rx_model.specs.Body.{AckBody}
use Rattle.rx_model.specs.Body as bodies
use Rattle.rx_model.specs.Message.{Message}
use Rattle.rx_rules.specs.CallItems.{Sending, Piece, after_sending, next_sending}
use Rattle.rx_rules.specs.CallLooks.{CallLooks, NodeView, after_ack_given, after_read, after_taken, call_row}
use Rattle.rx_rules.specs.CallLooks.{fresh_call, is_delivered}

-- ---- one end of a call

-- it is polled at a moment; an ACK comes then, with the first packet that it speaks of and its marks, 1 for one that
-- came
pub data Step : Type 0 where
  Poll : (now : ℕ) → Step
  Heard : (now first : ℕ) (marks : List ℕ) → Step

-- a server's call that says so many pieces and no more, at a node that is prompt or isn't; its congestion window is
-- open so far already
abbrev pub saying : (prompt : Bool) (pieces window : ℕ) → CallLooks
saying prompt pieces window =
    let k : CallLooks = fresh_call (record { window = 32; prompt = prompt }) 0 in
    record k {
      sent = record k.sent { said = replicate (1412 * pieces) 90; shut = true };
      cwnd = record k.cwnd { window = window };
    }

-- what its node tells it
abbrev pub view : ℕ → NodeView
view now = record { client = false; window = 32; left = 100; now = now }

-- an ACK as a message
abbrev pub ack : ℕ → List ℕ → Message
ack first marks =
    record {
      epoch = 1;
      cid = 4;
      number = 1;
      seq = 0;
      serial = 1;
      flags = 1;
      status = 0;
      index = 0;
      spare = 0;
      service = 1;
      body = bodies.Ack (record {
        first = first;
        previous = 0;
        serial = 0;
        reason = ACK_DELAY;
        marks = map (λ mark. mark == 1) marks;
        window = None;
      });
    }

-- what a step gives
abbrev pub given : Step → CallLooks → Option Sending
given (Poll now) k = next_sending (view now) k
given (Heard now first marks) k = None

-- behind what was given
abbrev pub behind : ℕ → Option Sending → CallLooks → CallLooks
behind now None k = k
behind now (Some sending) k = after_sending now sending k

-- behind a step
abbrev pub stepped : Step → CallLooks → CallLooks
stepped (Poll now) k = behind now (next_sending (view now) k) k
stepped (Heard now first marks) k =
    after_taken (view now) (call_row (view now) (ack first marks) (ack first marks).body k) (ack first marks) k

-- behind several
abbrev pub behind_all : List Step → CallLooks → CallLooks
behind_all [] k = k
behind_all (step ∷ steps) k = behind_all steps (stepped step k)

-- what each gives, and the congestion window behind it
abbrev pub shown : List Step → CallLooks → List (Option Sending × ℕ)
shown [] k = []
shown (step ∷ steps) k = (given step k, (stepped step k).cwnd.window) ∷ shown steps (stepped step k)

-- the steps of rows, each of which has beside it what it gives and that window
abbrev pub steps_of : List (Step × Option Sending × ℕ) → List Step
steps_of rows = map (λ r. r.0) rows

-- each step gives what stands beside it, and leaves that window
abbrev pub Shows : CallLooks → List (Step × Option Sending × ℕ) → Type 0
Shows k rows = shown (steps_of rows) k ≡ map (λ r. (r.1, r.2)) rows

-- piece k for the first time, or again
abbrev pub first_time : ℕ → Option Sending
first_time k = Some (Piece k false)

abbrev pub once_more : ℕ → Option Sending
once_more k = Some (Piece k true)

-- ---- three losses in one window

-- of 1 to 10, all given at moment 0, the pieces 2, 4 and 6 are lost; each goes again as the third of those behind it
-- came, before any fresh one, and the first of them closes the window by half
abbrev three_losses_rows : List (Step × Option Sending × ℕ)
three_losses_rows =
    (Poll 0, first_time 1, 10)
    ∷ (Poll 0, first_time 2, 10)
    ∷ (Poll 0, first_time 3, 10)
    ∷ (Poll 0, first_time 4, 10)
    ∷ (Poll 0, first_time 5, 10)
    ∷ (Poll 0, first_time 6, 10)
    ∷ (Poll 0, first_time 7, 10)
    ∷ (Poll 0, first_time 8, 10)
    ∷ (Poll 0, first_time 9, 10)
    ∷ (Poll 0, first_time 10, 10)
    ∷ (Poll 0, None, 10)
    ∷ (Heard 100 2 (0 ∷ 1 ∷ []), None, 12)
    ∷ (Heard 100 2 (0 ∷ 1 ∷ 0 ∷ 1 ∷ []), None, 13)
    ∷ (Heard 100 2 (0 ∷ 1 ∷ 0 ∷ 1 ∷ 0 ∷ 1 ∷ []), None, 14)
    ∷ (Poll 100, once_more 2, 7)
    ∷ (Heard 100 2 (0 ∷ 1 ∷ 0 ∷ 1 ∷ 0 ∷ 1 ∷ 1 ∷ []), None, 8)
    ∷ (Poll 100, once_more 4, 8)
    ∷ (Heard 100 2 (0 ∷ 1 ∷ 0 ∷ 1 ∷ 0 ∷ 1 ∷ 1 ∷ 1 ∷ []), None, 9)
    ∷ (Poll 100, once_more 6, 9)
    ∷ (Heard 100 2 (0 ∷ 1 ∷ 0 ∷ 1 ∷ 0 ∷ 1 ∷ 1 ∷ 1 ∷ 1 ∷ []), None, 10)
    ∷ (Poll 100, first_time 11, 10)
    ∷ (Poll 100, first_time 12, 10)
    ∷ (Poll 100, None, 10)
    ∷ (Heard 200 4 (0 ∷ 1 ∷ 0 ∷ 1 ∷ 1 ∷ 1 ∷ 1 ∷ []), None, 11)
    ∷ (Poll 200, None, 11)
    ∷ (Heard 200 6 (0 ∷ 1 ∷ 1 ∷ 1 ∷ 1 ∷ []), None, 12)
    ∷ (Poll 200, None, 12)
    ∷ (Heard 200 13 [], None, 13)
    ∷ (Poll 200, None, 13)
    ∷ []

three_losses : Shows (saying true 12 10) three_losses_rows
three_losses = refl

-- ---- a lost recovery

-- piece 2 is lost, and lost again; the three that overtook it first don't count again, but the third of those that were
-- given behind its second giving has it given once more, and the window isn't closed again
abbrev lost_recovery_rows : List (Step × Option Sending × ℕ)
lost_recovery_rows =
    (Poll 0, first_time 1, 5)
    ∷ (Poll 0, first_time 2, 5)
    ∷ (Poll 0, first_time 3, 5)
    ∷ (Poll 0, first_time 4, 5)
    ∷ (Poll 0, first_time 5, 5)
    ∷ (Poll 0, None, 5)
    ∷ (Heard 100 2 (0 ∷ 1 ∷ 1 ∷ 1 ∷ []), None, 9)
    ∷ (Poll 100, once_more 2, 4)
    ∷ (Poll 100, first_time 6, 4)
    ∷ (Poll 100, first_time 7, 4)
    ∷ (Poll 100, first_time 8, 4)
    ∷ (Poll 100, None, 4)
    ∷ (Heard 200 2 (0 ∷ 1 ∷ 1 ∷ 1 ∷ 1 ∷ []), None, 5)
    ∷ (Poll 200, None, 5)
    ∷ (Heard 200 2 (0 ∷ 1 ∷ 1 ∷ 1 ∷ 1 ∷ 1 ∷ []), None, 6)
    ∷ (Poll 200, None, 6)
    ∷ (Heard 200 2 (0 ∷ 1 ∷ 1 ∷ 1 ∷ 1 ∷ 1 ∷ 1 ∷ []), None, 7)
    ∷ (Poll 200, once_more 2, 7)
    ∷ (Poll 200, None, 7)
    ∷ (Heard 300 9 [], None, 8)
    ∷ (Poll 300, None, 8)
    ∷ []

lost_recovery : Shows (saying true 8 5) lost_recovery_rows
lost_recovery = refl

-- ---- another order

-- piece 2 comes behind 3 and 4: two that overtake it don't take it for lost
abbrev reordered_by_two_rows : List (Step × Option Sending × ℕ)
reordered_by_two_rows =
    (Poll 0, first_time 1, 4)
    ∷ (Poll 0, first_time 2, 4)
    ∷ (Poll 0, first_time 3, 4)
    ∷ (Poll 0, first_time 4, 4)
    ∷ (Poll 0, None, 4)
    ∷ (Heard 100 2 (0 ∷ 1 ∷ []), None, 6)
    ∷ (Poll 100, None, 6)
    ∷ (Heard 100 2 (0 ∷ 1 ∷ 1 ∷ []), None, 7)
    ∷ (Poll 100, None, 7)
    ∷ (Heard 100 5 [], None, 8)
    ∷ (Poll 100, None, 8)
    ∷ []

reordered_by_two : Shows (saying true 4 4) reordered_by_two_rows
reordered_by_two = refl

-- ---- nothing overtakes

-- the last piece is lost: it goes again as its time is up, three round trips and 100 ms behind its giving
abbrev last_lost_rows : List (Step × Option Sending × ℕ)
last_lost_rows =
    (Poll 0, first_time 1, 4)
    ∷ (Poll 0, first_time 2, 4)
    ∷ (Poll 0, first_time 3, 4)
    ∷ (Poll 0, None, 4)
    ∷ (Heard 100 3 [], None, 6)
    ∷ (Poll 399, None, 6)
    ∷ (Poll 400, once_more 3, 1)
    ∷ (Poll 400, None, 1)
    ∷ (Heard 500 4 [], None, 2)
    ∷ (Poll 500, None, 2)
    ∷ []

last_lost : Shows (saying true 3 4) last_lost_rows
last_lost = refl

-- its RTO is 600 ms then
last_lost_rto : (behind_all (steps_of last_lost_rows) (saying true 3 4)).rtt.rto ≡ 600
last_lost_rto = refl

-- it is lost once more: a piece that is given again asks, so that its time is one RTO alone
abbrev lost_twice_rows : List (Step × Option Sending × ℕ)
lost_twice_rows =
    (Poll 0, first_time 1, 4)
    ∷ (Poll 1099, None, 4)
    ∷ (Poll 1100, once_more 1, 1)
    ∷ (Poll 3099, None, 1)
    ∷ (Poll 3100, once_more 1, 1)
    ∷ (Poll 7099, None, 1)
    ∷ (Poll 7100, once_more 1, 1)
    ∷ []

lost_twice : Shows (saying true 1 4) lost_twice_rows
lost_twice = refl

-- a node that isn't prompt waits one RTO each time
abbrev lost_twice_unprompted_rows : List (Step × Option Sending × ℕ)
lost_twice_unprompted_rows =
    (Poll 0, first_time 1, 4)
    ∷ (Poll 999, None, 4)
    ∷ (Poll 1000, once_more 1, 1)
    ∷ (Poll 2999, None, 1)
    ∷ (Poll 3000, once_more 1, 1)
    ∷ []

lost_twice_unprompted : Shows (saying false 1 4) lost_twice_unprompted_rows
lost_twice_unprompted = refl

-- all four are lost: the first goes again as its time is up, and the others, which were given before that, as the
-- window opens, with no time of their own
abbrev all_four_lost_rows : List (Step × Option Sending × ℕ)
all_four_lost_rows =
    (Poll 0, first_time 1, 4)
    ∷ (Poll 0, first_time 2, 4)
    ∷ (Poll 0, first_time 3, 4)
    ∷ (Poll 0, first_time 4, 4)
    ∷ (Poll 1099, None, 4)
    ∷ (Poll 1100, once_more 1, 1)
    ∷ (Poll 1100, None, 1)
    ∷ (Heard 1200 2 [], None, 2)
    ∷ (Poll 1200, once_more 2, 2)
    ∷ (Poll 1200, once_more 3, 2)
    ∷ (Poll 1200, None, 2)
    ∷ (Heard 1300 3 [], None, 3)
    ∷ (Poll 1300, once_more 4, 3)
    ∷ (Poll 1300, None, 3)
    ∷ (Heard 1400 5 [], None, 4)
    ∷ (Poll 1400, None, 4)
    ∷ []

all_four_lost : Shows (saying true 4 4) all_four_lost_rows
all_four_lost = refl

-- its RTO was doubled once
all_four_lost_rto : (behind_all (steps_of all_four_lost_rows) (saying true 4 4)).rtt.rto ≡ 2000
all_four_lost_rto = refl

-- ---- what the other end tells

-- DATA of a byte
abbrev data_of : ℕ → Message
data_of seq = record (ack 1 []) { seq = seq; serial = seq; body = bodies.Chunk (97 ∷ []) }

-- a packet comes at moment 0
abbrev came : ℕ → CallLooks → CallLooks
came seq k = after_taken (view 0) tooks.Kept (data_of seq) k

-- packets 1 and 3 come then, which is acknowledged
abbrev pub hole_told : Bool → CallLooks
hole_told prompt = after_ack_given 0 (came 3 (came 1 (fresh_call (record { window = 32; prompt = prompt }) 0)))

-- a prompt node tells it again where nothing comes for 10 ms
hole_told_again : (hole_told true).owed_ack ≡ Some (record { reason = ACK_OUT_OF_SEQUENCE; serial = 0; rank = 10 })
hole_told_again = refl

hole_told_once : (hole_told false).owed_ack ≡ None
hole_told_once = refl

-- and again behind twice and four times as long
abbrev pub told_twice : CallLooks
told_twice = after_ack_given 10 (hole_told true)

hole_told_twice : told_twice.owed_ack ≡ Some (record { reason = ACK_OUT_OF_SEQUENCE; serial = 0; rank = 20 })
hole_told_twice = refl

hole_told_thrice : (after_ack_given 20 told_twice).owed_ack
    ≡ Some (record { reason = ACK_OUT_OF_SEQUENCE; serial = 0; rank = 40 })
hole_told_thrice = refl

-- where packet 2 comes alone, it's told once
lone_packet_told_once : (after_ack_given 0 (came 2 (fresh_call (record { window = 32; prompt = true }) 0))).owed_ack ≡
    None
lone_packet_told_once = refl

-- then packet 2 comes at moment 50
abbrev pub filled : Bool → CallLooks
filled prompt = after_taken (view 50) tooks.Kept (data_of 2) (hole_told prompt)

-- a prompt node acknowledges it a millisecond later, any other 100
hole_filled : (filled true).owed_ack ≡ Some (record { reason = ACK_DELAY; serial = 2; rank = 51 })
hole_filled = refl

hole_filled_unprompted : (filled false).owed_ack ≡ Some (record { reason = ACK_DELAY; serial = 2; rank = 150 })
hole_filled_unprompted = refl

-- a byte of it is read at that moment: a prompt node acknowledges it at once then
abbrev read_first : Bool → CallLooks
read_first prompt = after_read 50 false (97 ∷ []) (filled prompt)

behind_the_read : (read_first true).owed_ack ≡ Some (record { reason = ACK_DELAY; serial = 2; rank = 0 })
behind_the_read = refl

behind_the_read_unprompted : (read_first false).owed_ack ≡ Some (record { reason = ACK_DELAY; serial = 2; rank = 150 })
behind_the_read_unprompted = refl

-- the second is read at moment 70, behind that acknowledgement: nothing was left for it, and both acknowledge it later
abbrev read_second : Bool → CallLooks
read_second prompt = after_read 70 false (97 ∷ []) (after_ack_given 50 (read_first prompt))

one_read : (read_second true).owed_ack ≡ Some (record { reason = ACK_DELAY; serial = 0; rank = 170 })
one_read = refl

one_read_unprompted : (read_second false).owed_ack ≡ Some (record { reason = ACK_DELAY; serial = 0; rank = 170 })
one_read_unprompted = refl

-- packet 1 comes at moment 0 and asks for none: a prompt node acknowledges it 3 milliseconds later, any other 100
unasked_ack : (came 1 (fresh_call (record { window = 32; prompt = true }) 0)).owed_ack ≡ Some
    (record { reason = ACK_DELAY; serial = 1; rank = 3 })
unasked_ack = refl

unasked_ack_unprompted : (came 1 (fresh_call (record { window = 32; prompt = false }) 0)).owed_ack
    ≡ Some (record { reason = ACK_DELAY; serial = 1; rank = 100 })
unasked_ack_unprompted = refl

-- where it is the last one, both do so 100 milliseconds later
abbrev last_came : CallLooks
last_came = after_taken (view 0) tooks.Kept (record (data_of 1) { flags = LAST_PACKET })
    (fresh_call (record { window = 32; prompt = true }) 0)

last_ack : last_came.owed_ack ≡ Some (record { reason = ACK_DELAY; serial = 1; rank = 100 })
last_ack = refl

-- packet 1 comes at moment 50 and asks for an acknowledgement
abbrev asked : Bool → CallLooks
asked prompt =
    after_taken (view 50) tooks.Kept (record (data_of 1) { flags = REQUEST_ACK })
    (fresh_call (record { window = 32; prompt = prompt }) 0)

-- a prompt node leaves it for a millisecond, and any other gives it at once; it goes before what came was read then
asked_ack : (asked true).owed_ack ≡ Some (record { reason = ACK_REQUESTED; serial = 1; rank = 51 })
asked_ack = refl

asked_ack_unprompted : (asked false).owed_ack ≡ Some (record { reason = ACK_REQUESTED; serial = 1; rank = 0 })
asked_ack_unprompted = refl

-- behind the read it is one acknowledgement that tells of the window too
asked_read : (after_read 50 false (97 ∷ []) (asked true)).owed_ack
    ≡ Some (record { reason = ACK_REQUESTED; serial = 1; rank = 0 })
asked_read = refl

-- two pieces are given, and both are marked
abbrev marked : Bool → CallLooks
marked prompt = behind_all (Poll 0 ∷ Poll 0 ∷ Heard 100 1 (1 ∷ 1 ∷ []) ∷ []) (saying prompt 2 2)

-- so the other end has all that a prompt node said; of any other node it must acknowledge both behind a read
marked_delivered : is_delivered (marked true) ≡ true
marked_delivered = refl

marked_unprompted : is_delivered (marked false) ≡ false
marked_unprompted = refl
