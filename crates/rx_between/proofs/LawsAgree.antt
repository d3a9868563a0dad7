-- The ends of the calls of a connection agree: under each of three premises, as laws.
use Rattle.std.proofs.Common.{◌≡◌, ◌≤◌, ℕ, zero, suc, is_some, true, List, Option, Some, None, refl}
use Rattle.std.proofs.Common.{arith}
use Rattle.rx_model.specs.declared.event.Noted.{Noted}
use Rattle.rx_model.specs.declared.names.CallName.{CallName}
use Rattle.rx_model.specs.Names.{Channel}
use Rattle.rx_rules.specs.Looks.{CallRecord, call_at, channel_at, conn_at, latest_name}
use Rattle.rx_rules.proofs.ConnsLaws.{channel_number, number_of}
use Rattle.rx_law.specs.Promises.{at_client, at_server, ends_in}
use Rattle.rx_history.specs.Sides.{side}
use Rattle.rx_law.specs.Worlds.{TwoEnds}
use Rattle.rx_history.proofs.ClientHistory.{client-calls}
use Rattle.rx_law.proofs.Joint.{Fed}
use Rattle.rx_history.proofs.Laws.SoundLaws.{Below}
use Rattle.rx_between.specs.Agreed.{AgreeHeld, AgreeInWorld, AgreeOn, AgreeOnce, SenseHeld, SenseInWorld, SenseOnce}
use Rattle.rx_between.proofs.AllAgree.{all_agree}
use Rattle.rx_between.proofs.CameAll.{CameAll}
use Rattle.rx_between.proofs.LawsTrue.{came_in, came_once, fed_in, fed_once, held_once}
use Rattle.rx_between.proofs.Numbered.{latest_there}
use Rattle.rx_between.proofs.Sense.{sense_on}

-- what is known of a call that its client has, of its number
below : (o : Option CallRecord) (number top : ℕ) → Below o number top → is_some o ≡ true → number ≤ top
below None number top is there = absurd cc
below (Some k) number top is there = is

module _ (x : TwoEnds) (h : List Noted) (f : Fed x h) (came : CameAll x h) where
  -- the server's latest call of a channel is one of its client's
  channel_agrees : (ch : Channel) → ch.connection ≡ x.connection
      → (channel_at (at_server x h) ch).number ≤ (channel_at (at_client x h) ch).number
  channel_agrees ch on = of (channel_at (at_server x h) ch).number refl
    where
      c : CallName
      c = latest_name (at_server x h) ch

      of : (n : ℕ) → (channel_at (at_server x h) ch).number ≡ n
          → (channel_at (at_server x h) ch).number ≤ (channel_at (at_client x h) ch).number
      of zero is = omega (arith, is)
      of (suc n) is =
          (let there = latest_there x.server_setup (side x.server h) ch f.server_kind f.server_fits f.server_legal
          (omega (arith, is)) in
          let known = (all_agree x c h f came on).known there in
          let sound = (client-calls x.client_setup x.connection.host x.connection.epoch (side x.client h) f.client_kind
          f.client_fits f.client_legal).sound c in
          let low = below (call_at (at_client x h) c) c.number
          (number_of (conn_at (at_client x h) ch.connection) ch.chan) sound.below known in
          let top = channel_number (at_client x h) ch in
          omega (arith, low, top))

  agree_on : AgreeOn x h
  agree_on = record { calls = λ c on. all_agree x c h f came on; channels = channel_agrees }

pub agree_once : AgreeOnce
agree_once x h held = agree_on x h (fed_once x h held) (came_once x h held)

pub agree_held : AgreeHeld
agree_held x h held = agree_once x h (held_once x h held)

pub agree_in_world : AgreeInWorld
agree_in_world nodes h w kept x k client server there kind first =
    agree_on (ends_in x k client server) h (fed_in nodes h w k client server x there kind first kept)
    (came_in nodes h w k client server x there kind first)

-- ---- what one end gave makes sense at the other

pub sense_once : SenseOnce
sense_once x h held = sense_on x h (fed_once x h held) (came_once x h held)

pub sense_held : SenseHeld
sense_held x h held = sense_once x h (held_once x h held)

pub sense_in_world : SenseInWorld
sense_in_world nodes h w kept x k client server there kind first =
    sense_on (ends_in x k client server) h (fed_in nodes h w k client server x there kind first kept)
    (came_in nodes h w k client server x there kind first)
