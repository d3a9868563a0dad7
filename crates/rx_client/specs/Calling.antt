-- What a client finds of its channels and their calls. Public clauses cite this module.
use Rattle.std.specs.Prelude.{◌≡◌, ◌∷◌, not, ℕ, List, [], filter, Option, Some, None}
use Rattle.rx_model.specs.declared.answers.CallRefused.{CallRefused}
use Rattle.rx_model.specs.declared.answers.CallRefused.TheVariants as crowds
use Rattle.rx_model.specs.declared.answers.End.{End}
use Rattle.rx_model.specs.declared.names.CallName.{CallName}
use Rattle.rx_model.specs.Names.{Channel, channel_of, channels_of}
use Rattle.rx_rules.specs.Life as lives
use Rattle.rx_rules.specs.Looks.{CallRecord, ConnLooks, Looks, call_at, latest_name}
use Rattle.rx_rules.specs.Rules.{is_free, is_worn}
use Rattle.rx_node.specs.Mirrors.{IsChannel}

-- a call is the latest of the channel with a key, and lives
pub record IsCallingAt (l : Looks) (key : ℕ) (c : CallName) : Type 0 where
  pub channel : IsChannel l key (channel_of c)
  pub latest : latest_name l (channel_of c) ≡ c
  pub call : CallRecord
  pub there : call_at l c ≡ Some call
  pub life : call.life ≡ lives.Calling

-- a call that is looked for ended, or there is none
abbrev pub HasEnded : Option CallRecord → Type 0
HasEnded None = Unit {0}
HasEnded (Some k) = (end : End) × (k.life ≡ lives.Ended end)

-- those of some channels on which a call may start
abbrev pub open_among : Looks → List Channel → List Channel
open_among l chs = filter (λ ch. not (is_worn l ch)) (filter (is_free l) chs)

-- why none may, where none does: none is free, or each free one used up its numbers
abbrev pub refusal_of : List Channel → CallRefused
refusal_of [] = crowds.NoChannel
refusal_of (ch ∷ chs) = crowds.Worn

-- the channel with a key is the first of a connection's on which a call may start
pub record IsFirstOpen (l : Looks) (x : ConnLooks) (key : ℕ) : Type 0 where
  pub channel : Channel
  pub at : IsChannel l key channel
  pub rest : List Channel
  pub first : open_among l (channels_of x.connection) ≡ channel ∷ rest

-- a call may start on none of some channels, for this reason
pub record HasNoneOpen (l : Looks) (chs : List Channel) (refused : CallRefused) : Type 0 where
  pub none : open_among l chs ≡ []
  pub is : refused ≡ refusal_of (filter (is_free l) chs)
