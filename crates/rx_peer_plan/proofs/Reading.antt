-- The peers of a plan of peers that was read: their numbers are in range, and no two of them share a host.
use Rattle.std.proofs.Common.{◌≡◌, ◌≢◌, ◌<◌, ◌-◌, ◌^◌, ◌||◌, ◌&&◌, if◌then◌else◌, ℕ, zero, suc, Bool, true, false}
use Rattle.std.proofs.Common.{List, []}
use Rattle.std.proofs.Common.{◌∷◌, ◌++◌, Option, Some, None, Result, Ok, Err, refl, ◌∙◌, ap, sym, subst, length, arith}
use Rattle.std.proofs.Common.{reverse, drop, get_or, slice_get, append-nil, append_assoc, All, IfSome}
use Rattle.std.proofs.lemmas.List.Elements.{All-push}
use Rattle.std.proofs.lemmas.List.{length-map}
use Rattle.std.proofs.Math.ListN.{get_or-map}
use Rattle.std.specs.List.{starts_with}
use Rattle.std.specs.Option.{ok_or}
use Rattle.std.specs.Prelude.{IfOk, nat_eq, nat_lt}
use Rattle.rx_joint_peers.specs.Joint.{made_peer}
use Rattle.rx_model.proofs.NameLaws.{host_itself, number_sym}
use Rattle.rx_model.specs.declared.names.Host.{Host}
use Rattle.rx_model.specs.Names.{same_host}
use Rattle.rx_peer.specs.PeerWorlds.{PeerNode}
use Rattle.rx_peer_plan.specs.Promises.{AreInRange, HaveOwnHosts, IsInRange, peer_before, peer_made, plan_peers}
use Rattle.rx_plan.proofs.Givings.Given.{InRange, options_well, service_well}
use Rattle.rx_plan.proofs.Reading.{after_well, given_either}
use Rattle.rx_plan.proofs.Words.{Within, any_ok, if_and, if_any, if_either, if_end, if_or, if_word, within_well}
use Rattle.rx_script.specs.declared.fault.LineWhy.{LineWhy}
use Rattle.rx_script.specs.declared.fault.LineWhy.TheVariants as whys
use Rattle.rx_script.specs.declared.limits.TheConstants.{MAX_LINES}
use Rattle.rx_script.specs.declared.marks.TheConstants.{PEER}
use Rattle.rx_script.specs.declared.options.TheConstants.{PEER_OPTIONS}
use Rattle.rx_script.specs.declared.plan.PeerLine.{PeerLine}
use Rattle.rx_script.specs.declared.plan.PeerLine.TheVariants as lines
use Rattle.rx_script.specs.declared.plan.PeerNumbered.{PeerNumbered}
use Rattle.rx_script.specs.declared.shared.SharedLine.{SharedLine}
use Rattle.rx_script.specs.declared.shared.SharedLine.TheVariants as shareds
use Rattle.rx_script.specs.declared.verb.TheConstants.{VERBS}
use Rattle.rx_script.specs.declared.verb.Verb.{Verb}
use Rattle.rx_script.specs.declared.verb.Verb.TheVariants as verbs
use Rattle.rx_script.specs.declared.words.Names.TheVariants as names
use Rattle.rx_script.specs.Hosts.{has_host}
use Rattle.rx_script.specs.Numbers.{number_within}
use Rattle.rx_script.specs.Options.{limits_in, options_word, service_in}
use Rattle.rx_script.specs.Pieces.{lines_of, words_of}
use Rattle.rx_script.specs.Plans.{peer_hosts, peer_in, peer_plan_of, peer_step, with_said}
use Rattle.rx_script.specs.Rows.{invoke_line, new_host, peer_by, peer_line, peer_node_line, peer_of_shared}
use Rattle.rx_script.specs.Rows.{plain_peer_line, shared_line}
use Rattle.rx_script.specs.Saying.{Row, Said, invoked, peer_row, peer_rows, peer_said, plain}
use Rattle.rx_script.specs.Texts.{is_skipped, read_back, with_line}
use Rattle.rx_script.specs.Verbs.{verb_in}
use Rattle.rx_script.specs.Words.{and_then, end, epoch_head, epoch_word, host_word, name_word, word}
use Rattle.xdr_value.specs.Data.{Procs, Types}

-- ---- one line

-- the numbers of a peer that it makes are in range
abbrev IsRanged : Said PeerLine → Type 0
IsRanged (plain (lines.Peer host epoch service limits)) = (epoch < 2 ^ 32) × (service < 2 ^ 16)
IsRanged _ = Unit {0}

-- the same, and its host is none of these
abbrev IsNew : (Host → Bool) → Said PeerLine → Type 0
IsNew taken (plain (lines.Peer host epoch service limits)) =
    (epoch < 2 ^ 32) × (service < 2 ^ 16) × (taken host ≡ false)
IsNew taken _ = Unit {0}

host_new : (taken : Host → Bool) (w : List ℕ) → IfOk (new_host taken w) (λ host. taken host ≡ false)
host_new taken w =
    if_and (host_word w) (λ host. if taken host then Err whys.Twice else Ok host) (λ host. Unit {0})
    (λ host. taken host ≡ false) (any_ok (host_word w)) (λ host any. of host (taken host) refl)
  where
    of : (host : Host) (b : Bool) → taken host ≡ b
        → IfOk (if b then Err whys.Twice else Ok host) (λ h. taken h ≡ false)
    of host true is = tt
    of host false is = is

epoch_below : (o : Option ℕ) → IfSome o (Within 0 (2 ^ 32 - 1)) → IfSome o (λ epoch. epoch < 2 ^ 32)
epoch_below None within = tt
epoch_below (Some epoch) within = omega (arith, within.1)

epoch_new : (w : List ℕ) → IfOk (epoch_word w) (λ epoch. epoch < 2 ^ 32)
epoch_new w =
    if_either (starts_with nat_eq w epoch_head)
    (ok_or (number_within 0 (2 ^ 32 - 1) (drop (length epoch_head) w)) whys.Number) (Err whys.Word)
    (λ epoch. epoch < 2 ^ 32)
    (if_or (number_within 0 (2 ^ 32 - 1) (drop (length epoch_head) w)) whys.Number (λ epoch. epoch < 2 ^ 32)
    (epoch_below (number_within 0 (2 ^ 32 - 1) (drop (length epoch_head) w))
    (within_well 0 (2 ^ 32 - 1) (drop (length epoch_head) w)))) tt

module _ (taken : Host → Bool) where
  peer_new : (words : List (List ℕ)) → IfOk (peer_node_line taken words) (λ line. IsNew taken (plain line))
  peer_new words =
      if_word (new_host taken) (λ host. word epoch_word (λ epoch ws. and_then (options_word PEER_OPTIONS ws)
      (λ given. Ok (lines.Peer host epoch (service_in given) (limits_in given))))) (λ host. taken host ≡ false)
      (λ line. IsNew taken (plain line)) (host_new taken)
      (λ host free. if_word epoch_word (λ epoch ws. and_then (options_word PEER_OPTIONS ws)
      (λ given. Ok (lines.Peer host epoch (service_in given) (limits_in given)))) (λ epoch. epoch < 2 ^ 32)
      (λ line. IsNew taken (plain line)) epoch_new
      (λ epoch low ws. if_and (options_word PEER_OPTIONS ws)
      (λ given. Ok (lines.Peer host epoch (service_in given) (limits_in given))) InRange
      (λ line. IsNew taken (plain line)) (options_well PEER_OPTIONS ws)
      (λ given all. (low, service_well given.service all.service, free)))) words

  shared_new : (line : SharedLine) → IsNew taken (plain (peer_of_shared line))
  shared_new (shareds.Cancel call code) = tt
  shared_new (shareds.Ask call) = tt
  shared_new (shareds.Poll node) = tt
  shared_new (shareds.Deliver packet) = tt
  shared_new (shareds.Clock which now) = tt
  shared_new (shareds.Turn node) = tt
  shared_new (shareds.Rounds rounds) = tt
  shared_new (shareds.Lossy seed rounds) = tt

  plain_new : (verb : Verb) (words : List (List ℕ))
      → IfOk (plain_peer_line taken verb words) (λ line. IsNew taken (plain line))
  plain_new verbs.Peer words = peer_new words
  plain_new verbs.Connect words =
      if_any (name_word PEER) (λ peer. word (name_word PEER) (λ to. end (lines.Connect peer to)))
      (λ line. IsNew taken (plain line))
      (λ peer. if_any (name_word PEER) (λ to. end (lines.Connect peer to)) (λ line. IsNew taken (plain line))
      (λ to. if_end (lines.Connect peer to) (λ line. IsNew taken (plain line)) tt)) words
  plain_new verb words =
      if_and (shared_line names.Peers verb words) (λ line. Ok (peer_of_shared line)) (λ line. Unit {0})
      (λ line. IsNew taken (plain line)) (any_ok (shared_line names.Peers verb words)) (λ line any. shared_new line)

  said_new : (line : PeerLine) → IsNew taken (plain line) → IsNew taken (peer_said line)
  said_new (lines.Invoke peer cid proc up down args) new = tt
  said_new line new = new

  by_new : (t : Types) (ps : Procs) (verb : Verb) (words : List (List ℕ))
      → IfOk (peer_by t ps taken verb words) (IsNew taken)
  by_new t ps verbs.Invoke words =
      if_and (invoke_line t ps names.Peers words) (λ call. Ok (invoked call)) (λ i. Unit {0}) (IsNew taken)
      (any_ok (invoke_line t ps names.Peers words)) (λ i any. tt)
  by_new t ps verb words =
      if_and (plain_peer_line taken verb words) (λ line. Ok (peer_said line)) (λ line. IsNew taken (plain line))
      (IsNew taken) (plain_new verb words) said_new

  line_new : (t : Types) (ps : Procs) (words : List (List ℕ)) → IfOk (peer_line t ps taken words) (IsNew taken)
  line_new t ps [] = tt
  line_new t ps (first ∷ words) =
      if_and (ok_or (verb_in VERBS first) whys.Word) (λ verb. peer_by t ps taken verb words) (λ verb. Unit {0})
      (IsNew taken) (any_ok (ok_or (verb_in VERBS first) whys.Word)) (λ verb any. by_new t ps verb words)

-- ---- hosts

-- none of them stands among those behind it
abbrev AreOwn : List Host → Type 0
AreOwn [] = Unit {0}
AreOwn (h ∷ hs) = (has_host hs h ≡ false) × AreOwn hs

or_parts : (a b : Bool) → (a || b) ≡ false → (a ≡ false) × (b ≡ false)
or_parts true b h = absurd cc
or_parts false b h = (refl, h)

or_both : (a b : Bool) → a ≡ false → b ≡ false → (a || b) ≡ false
or_both true b first next = absurd cc
or_both false b first next = next

host_sym : (a b : Host) → same_host a b ≡ same_host b a
host_sym a b = λ i. number_sym a.addr b.addr i && number_sym a.port b.port i

hasnt_more : (hs : List Host) (host x : Host) → has_host hs x ≡ false → same_host host x ≡ false
    → has_host (hs ++ host ∷ []) x ≡ false
hasnt_more [] host x none differ = or_both (same_host host x) false differ refl
hasnt_more (h ∷ hs) host x none differ =
    (let parts = or_parts (same_host h x) (has_host hs x) none in
    or_both (same_host h x) (has_host (hs ++ host ∷ []) x) parts.0 (hasnt_more hs host x parts.1 differ))

own_push : (hs : List Host) (host : Host) → AreOwn hs → has_host hs host ≡ false → AreOwn (hs ++ host ∷ [])
own_push [] host own new = (refl, tt)
own_push (h ∷ hs) host own new =
    (let parts = or_parts (same_host h host) (has_host hs host) new in (
      hasnt_more hs host h own.0 (host_sym host h ∙ parts.0),
      own_push hs host own.1 parts.1,
    ))

own_more : (hs : List Host) (said : Said PeerLine) → AreOwn hs → IsNew (has_host hs) said → AreOwn (hs ++ peer_in said)
own_more hs (plain (lines.Peer host epoch service limits)) own new = own_push hs host own new.2
own_more hs said own new = subst AreOwn (sym (append-nil hs)) own

ranged_of : (taken : Host → Bool) (said : Said PeerLine) → IsNew taken said → IsRanged said
ranged_of taken (plain (lines.Peer host epoch service limits)) new = (new.0, new.1)
ranged_of taken said new = tt

hosts_more : (before : List (Row PeerLine)) (n : ℕ) (said : Said PeerLine)
    → peer_hosts (before ++ (n, said) ∷ []) ≡ peer_hosts before ++ peer_in said
hosts_more [] n said = append-nil (peer_in said)
hosts_more (r ∷ rs) n said =
    ap (λ hs. peer_in r.1 ++ hs) (hosts_more rs n said)
    ∙ sym (append_assoc (peer_in r.1) (peer_hosts rs) (peer_in said))

-- ---- texts

-- the numbers of all peers of rows are in range, and each has a host of its own
abbrev AreSo : List (Row PeerLine) → Type 0
AreSo rows = All (λ r. IsRanged r.1) rows × AreOwn (peer_hosts rows)

row_so : (n : ℕ) (before : List (Row PeerLine)) (said : Result (Said PeerLine) LineWhy) → AreSo before
    → IfOk said (IsNew (has_host (peer_hosts before))) → IfOk (with_said n before said) AreSo
row_so n before (Err why) so new = tt
row_so n before (Ok said) so new = (
  All-push (λ r. IsRanged r.1) before (n, said) so.0 (ranged_of (has_host (peer_hosts before)) said new),
  subst AreOwn (sym (hosts_more before n said)) (own_more (peer_hosts before) said so.1 new),
)

taken_so : (t : Types) (ps : Procs) (n : ℕ) (line : List ℕ) (before : List (Row PeerLine)) → AreSo before
    → IfOk (with_line (peer_step t ps) n line before) AreSo
taken_so t ps n line before so =
    given_either (nat_lt MAX_LINES n) (Err _) _ AreSo tt
    (given_either (is_skipped line) (Ok before) (peer_step t ps n line before) AreSo so
    (row_so n before (peer_line t ps (has_host (peer_hosts before)) (words_of line)) so
    (line_new (has_host (peer_hosts before)) t ps (words_of line))))

back_so : (t : Types) (ps : Procs) (before : List (List ℕ)) → IfOk (read_back (peer_step t ps) [] before) AreSo
back_so t ps [] = (λ k d none. absurd (omega (arith, none)), tt)
back_so t ps (line ∷ before) =
    after_well (read_back (peer_step t ps) [] before) (with_line (peer_step t ps) (suc (length before)) line) AreSo
    (back_so t ps before) (λ rows so. taken_so t ps (suc (length before)) line rows so)

read_so : (t : Types) (ps : Procs) (text : List ℕ) (ls : List PeerNumbered)
    → peer_plan_of t ps text ≡ Ok (peer_rows ls) → AreSo (peer_rows ls)
read_so t ps text ls read = subst (λ r. IfOk r AreSo) read (back_so t ps (reverse (lines_of text)))

-- ---- peers

made_ranged : (line : PeerLine) → IsRanged (peer_said line) → IfSome (peer_made line) IsInRange
made_ranged (lines.Peer host epoch service limits) ranged =
    record { caller = ranged.0; served = (ranged.1, omega arith) }
made_ranged line ranged = tt

pub peers_ranged : (t : Types) (ps : Procs) (text : List ℕ) (ls : List PeerNumbered)
    → peer_plan_of t ps text ≡ Ok (peer_rows ls) → AreInRange ls
peers_ranged t ps text ls read k d there =
    made_ranged (get_or ls k d).what
    (subst (λ r. IsRanged r.1) (get_or-map peer_row ls k d)
    ((read_so t ps text ls read).0 k (peer_row d) (subst (λ n. k < n) (sym (length-map ls peer_row)) there)))

-- a peer has another host than this one
abbrev Differs : Host → PeerNode → Type 0
Differs host q = q.host ≢ host

-- none of the peers of lines has a host that theirs aren't
none_has : (line : PeerLine) (hs : List Host) (rest : List PeerNode) (host : Host)
    → has_host (peer_in (peer_said line) ++ hs) host ≡ false
    → (has_host hs host ≡ false → (k : ℕ) → IfSome (slice_get rest k) (Differs host))
    → (k : ℕ) → IfSome (slice_get (peer_before (peer_made line) rest) k) (Differs host)
none_has (lines.Peer at epoch service limits) hs rest host none again zero =
    λ same. (let other : same_host at host ≡ false = (or_parts (same_host at host) (has_host hs host) none).0 in
    let itself : same_host host host ≡ false = subst (λ (h : Host). same_host h host ≡ false) same other in
    let never : true ≡ false = sym (host_itself host) ∙ itself in absurd cc)
none_has (lines.Peer at epoch service limits) hs rest host none again (suc k) =
    again (or_parts (same_host at host) (has_host hs host) none).1 k
none_has line hs rest host none again k = tt

others : (ls : List PeerNumbered) (host : Host) → has_host (peer_hosts (peer_rows ls)) host ≡ false
    → (k : ℕ) → IfSome (slice_get (plan_peers ls) k) (Differs host)
others [] host none k = tt
others (l ∷ ls) host none k =
    none_has l.what (peer_hosts (peer_rows ls)) (plan_peers ls) host none (others ls host) k

-- no two of them share one
abbrev AreApart : List PeerNode → Type 0
AreApart ps =
    (i j : ℕ) → IfSome (slice_get ps i) (λ p. IfSome (slice_get ps j) (λ q. p.host ≡ q.host → suc i ≡ suc j))

module _ (p : PeerNode) (rest : List PeerNode) (differ : (k : ℕ) → IfSome (slice_get rest k) (Differs p.host))
    (apart : AreApart rest) where
  to_first : (j : ℕ) (o : Option PeerNode) → IfSome o (Differs p.host)
      → IfSome o (λ q. p.host ≡ q.host → suc zero ≡ suc (suc j))
  to_first j None other = tt
  to_first j (Some q) other = λ same. absurd (other (sym same))

  from_first : (i : ℕ) (o : Option PeerNode) → IfSome o (Differs p.host)
      → IfSome o (λ q. q.host ≡ p.host → suc (suc i) ≡ suc zero)
  from_first i None other = tt
  from_first i (Some q) other = λ same. absurd (other same)

  both_later : (i j : ℕ) (o u : Option PeerNode)
      → IfSome o (λ q. IfSome u (λ r. q.host ≡ r.host → suc i ≡ suc j))
      → IfSome o (λ q. IfSome u (λ r. q.host ≡ r.host → suc (suc i) ≡ suc (suc j)))
  both_later i j None u same = tt
  both_later i j (Some q) None same = tt
  both_later i j (Some q) (Some r) same = λ hosts. ap suc (same hosts)

  apart_more : AreApart (p ∷ rest)
  apart_more zero zero = λ same. refl
  apart_more zero (suc j) = to_first j (slice_get rest j) (differ j)
  apart_more (suc i) zero = from_first i (slice_get rest i) (differ i)
  apart_more (suc i) (suc j) = both_later i j (slice_get rest i) (slice_get rest j) (apart i j)

line_apart : (line : PeerLine) (hs : List Host) (rest : List PeerNode) → AreOwn (peer_in (peer_said line) ++ hs)
    → ((host : Host) → has_host hs host ≡ false → (k : ℕ) → IfSome (slice_get rest k) (Differs host))
    → (AreOwn hs → AreApart rest) → AreApart (peer_before (peer_made line) rest)
line_apart (lines.Peer host epoch service limits) hs rest own differ apart =
    apart_more (made_peer host epoch service limits) rest (differ host own.0) (apart own.1)
line_apart line hs rest own differ apart = λ i j. tt

all_apart : (ls : List PeerNumbered) → AreOwn (peer_hosts (peer_rows ls)) → AreApart (plan_peers ls)
all_apart [] own = λ i j. tt
all_apart (l ∷ ls) own =
    line_apart l.what (peer_hosts (peer_rows ls)) (plan_peers ls) own (others ls) (all_apart ls)

numbers_apart : (ps : List PeerNode) → AreApart ps → HaveOwnHosts ps
numbers_apart ps apart zero j = tt
numbers_apart ps apart (suc i) zero = of (slice_get ps i)
  where
    of : (o : Option PeerNode) → IfSome o (λ p. Unit {0})
    of None = tt
    of (Some p) = tt
numbers_apart ps apart (suc i) (suc j) = apart i j

-- the peers of lines that name no host twice have hosts of their own
pub hosts_apart : (ls : List PeerNumbered) → AreOwn (peer_hosts (peer_rows ls)) → HaveOwnHosts (plan_peers ls)
hosts_apart ls own = numbers_apart (plan_peers ls) (all_apart ls own)

pub own_hosts : (t : Types) (ps : Procs) (text : List ℕ) (ls : List PeerNumbered)
    → peer_plan_of t ps text ≡ Ok (peer_rows ls) → HaveOwnHosts (plan_peers ls)
own_hosts t ps text ls read = hosts_apart ls (read_so t ps text ls read).1
