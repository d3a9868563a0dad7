use Rattle.rx_history.proofs.Given.Givings.{poll_gives}
use Rattle.rx_history.proofs.Given.GivingItems.{item_apart, item_latest, item_name}
use Rattle.rx_law.proofs.laws.polls_give_plain_messages.Goals as goal

pub returns : goal.returns
returns c =
    record {
      plain = λ s h to bytes fits legal is. poll_gives s h fits legal to bytes is;
      apart = λ s h to m fits legal g. item_apart s h fits legal to m g;
      named = λ s h to m fits legal g. item_name s h fits legal to m g;
      latest = λ s h to m fits legal g. item_latest s h fits legal to m g;
    }
