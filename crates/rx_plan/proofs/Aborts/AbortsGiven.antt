-- Each ABORT of a call that a node gives tells a code that an event gave its call, and a stray one is owed to DATA of
-- another service or class.
use Rattle.std.proofs.Common.{List, Ok, Some, [], ap, inl, inr, subst, sym, ℕ, ℤ, false, ◌∙◌, ◌∷◌, ◌≡◌, ◌⊎◌}
use Rattle.rx_model.specs.declared.event.Event.{Event}
use Rattle.rx_model.specs.declared.names.CallName.{CallName}
use Rattle.rx_model.specs.declared.names.Host.{Host}
use Rattle.rx_model.specs.declared.stray.Stray.{Stray}
use Rattle.rx_model.specs.declared.wire.TheConstants.{RX_INVALID_OPERATION}
use Rattle.rx_model.specs.Body.{Body}
use Rattle.rx_model.specs.Body as bodies
use Rattle.rx_model.specs.Message.{Message}
use Rattle.rx_model.specs.Names.{Channel}
use Rattle.rx_model.specs.Reading.{reading_of}
use Rattle.rx_model.specs.Strays.{is_stray, stray_message}
use Rattle.rx_rules.specs.After.{looks}
use Rattle.rx_rules.specs.Items.{poll_answer}
use Rattle.rx_rules.specs.Looks.{Looks}
use Rattle.rx_rules.specs.Records.{silenced}
use Rattle.rx_rules.specs.Rules.{AllowedAt, Legal}
use Rattle.rx_rules.specs.Setup.{FitsSetup, Setup, named}
use Rattle.rx_rules.proofs.EveryLaws.{Every}
use Rattle.rx_history.specs.Givings.{GivesItem, GivesStray}
use Rattle.rx_history.specs.Sides.{GivesTo}
use Rattle.rx_law.specs.Worlds.{Gave}
use Rattle.rx_history.proofs.Data.{OwnName}
use Rattle.rx_history.proofs.Given.GivingItems.{item_apart, item_name}
use Rattle.rx_history.proofs.Given.Givings.{next_is, poll_gives}
use Rattle.rx_law.proofs.Joint.{gives-at, polled-is}
use Rattle.rx_plan.proofs.Aborts.AbortCauses.{HasCode, codes_history}
use Rattle.rx_plan.proofs.ChannelsHold.{channel_here}
use Rattle.rx_plan.proofs.Givings.ItemsTell.{ChannelTells, IsPlain, next_tells}
use Rattle.rx_plan.proofs.Aborts.OwedCodes.{Owed, OwesCode}
use Rattle.rx_plan.proofs.Keys.StraysCame.{CameStray, stray_later, strays_came}

module _ (K : CallName → ℤ → Type 0) where
  -- an ABORT tells a code of the name that it has
  abbrev Tells : CallName → Body → Type 0
  Tells c body = (code : ℤ) → body ≡ bodies.Abort code → K c code

  plain : IsPlain Tells
  plain =
      record {
        busy = λ c code is. absurd cc;
        ackall = λ c code is. absurd cc;
        chunk = λ c payload code is. absurd cc;
        ack = λ c a code is. absurd cc;
      }

  told : (s : Setup) (l : Looks) (ch : Channel) → Owed K l → ChannelTells Tells s l ch
  told s l ch all =
      record {
        abort = λ code is other same.
            (channel_here (OwesCode K) l ch (λ order code none. absurd cc) all).1 other
            (is ∙ (let one : code ≡ other = cc in ap (λ (n : ℤ). Some n) one));
        response = λ bytes is code same. absurd cc;
        challenge = λ lives code same. absurd cc;
      }

-- ---- what a node gave

-- an ABORT that a node gave is a stray one, which some DATA owed, or tells a code of its call
pub record IsStray (s : Setup) (h : List Event) (to : Host) (m : Message) (code : ℤ) : Type 0 where
  pub code_is : code ≡ RX_INVALID_OPERATION
  pub stray : Stray
  pub is : m ≡ stray_message stray
  pub host : to ≡ stray.host
  pub came : CameStray s h stray

pub record IsOfCall (K : CallName → ℤ → Type 0) (s : Setup) (to : Host) (m : Message) (code : ℤ) : Type 0 where
  pub some : is_stray m m.body ≡ false
  pub own : OwnName s.kind (named s to m)
  pub has : K (named s to m) code

module _ (K : CallName → ℤ → Type 0) (s : Setup) (h : List Event) (to : Host) (bytes : List ℕ) (m : Message) (code : ℤ)
  where
    -- that a poll gives
    pub poll_tells : FitsSetup s → Legal s h → Owed K (looks s h) → poll_answer s (looks s h) ≡ Some (to, bytes)
        → reading_of bytes ≡ Ok m → m.body ≡ bodies.Abort code → IsStray s h to m code ⊎ IsOfCall K s to m code
    poll_tells fits legal owed answer reads aborts =
        let g = poll_gives s h fits legal to bytes answer in
        let same : g.message ≡ m = (let one : Ok g.message ≡ Ok m = sym g.read ∙ reads in cc) in
        of (subst (λ (n : Message). GivesStray (looks s h) to n ⊎ GivesItem s (looks s h) to n) same g.owed)
      where
        of : GivesStray (looks s h) to m ⊎ GivesItem s (looks s h) to m → IsStray s h to m code ⊎ IsOfCall K s to m code
        of (inl g) =
            (let body : bodies.Abort code ≡ bodies.Abort RX_INVALID_OPERATION =
            sym aborts ∙ ap (λ (n : Message). n.body) g.is in
            inl (record {
              code_is = cc;
              stray = g.oldest;
              is = g.is;
              host = g.host;
              came = (subst (λ (xs : List Stray). Every (CameStray s h) xs) g.owed (strays_came s h)).0;
            }))
        of (inr g) =
            inr (record {
              some = item_apart s h fits legal to m g;
              own =
                  subst (OwnName s.kind) (sym (item_name s h fits legal to m g))
                  (next_is s h fits legal g.item g.next).name.own;
              has =
                  subst (λ (c : CallName). K c code) (sym (item_name s h fits legal to m g))
                  (next_tells (Tells K) (plain K) s (silenced (looks s h)) g.item
                  (λ ch. told K s (silenced (looks s h)) ch owed) g.next code
                  (sym (ap (λ (n : Message). n.body) g.is) ∙ aborts));
            })

-- that one of its events gave
pub aborts_given : (s : Setup) (h : List Event) (to : Host) (bytes : List ℕ) (m : Message) (code : ℤ) → FitsSetup s
    → Legal s h → reading_of bytes ≡ Ok m → m.body ≡ bodies.Abort code → Gave to bytes h
    → IsStray s h to m code ⊎ IsOfCall (HasCode s h) s to m code
aborts_given s [] to bytes m code fits legal reads aborts gave = absurd gave
aborts_given s (e ∷ h) to bytes m code fits legal reads aborts gave =
    by gave (λ before. aborts_given s h to bytes m code fits legal.1 reads aborts before)
  where
    more : IsStray s h to m code ⊎ IsOfCall (HasCode s h) s to m code
        → IsStray s (e ∷ h) to m code ⊎ IsOfCall (HasCode s (e ∷ h)) s to m code
    more (inl x) =
        inl (record {
          code_is = x.code_is;
          stray = x.stray;
          is = x.is;
          host = x.host;
          came = stray_later s e h x.stray x.came;
        })
    more (inr told) = inr (record { some = told.some; own = told.own; has = inr told.has })

    by : GivesTo to bytes e ⊎ Gave to bytes h
        → (Gave to bytes h → IsStray s h to m code ⊎ IsOfCall (HasCode s h) s to m code)
        → IsStray s (e ∷ h) to m code ⊎ IsOfCall (HasCode s (e ∷ h)) s to m code
    by (inl gives) earlier =
        (let g = gives-at to bytes e gives in
        let answer = polled-is s.kind s (looks s h) g.0
        (subst (λ (x : Event). AllowedAt s.kind s (looks s h) x) g.1 legal.0) in
        more (poll_tells (HasCode s h) s h to bytes m code fits legal.1 (codes_history s h legal.1).owed
        (sym answer ∙ g.2) reads aborts))
    by (inr gave) earlier = more (earlier gave)
