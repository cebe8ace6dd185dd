use Rattle.std.specs.Prelude.{◌≡◌, ◌+◌, ◌≤◌, ℕ, Bool, true, false, List, [], Option, None, Some, if◌then◌else◌, nat_lt, min, slice_get, slice_set, slice_index_or, replicate, length, All, Contains}
use Rattle.std.specs.Ordering.{nat_cmp}
use Rattle.std.specs.List.Sorted.{IsStrictlySortedBy}
use Rattle.std.specs.BTreeMap.{is_at}
use Rattle.std.specs.BTreeSet.{insert_key}
use Rattle.std.specs.Set.{remove_key}
use Rattle.cal_base.specs.Limits.{clients}
use Rattle.cal_base.specs.declared.identity.ClientId.{ClientId}
use Rattle.cal_base.specs.declared.identity.NodeId.{NodeId}
use Rattle.cal_base.specs.declared.identity.NodeId.TheVariants.{Client, Server}
use Rattle.cal_base.specs.declared.identity.ServerId.{ServerId}
use Rattle.cal_base.specs.declared.identity.ServerId.TheVariants.{A, B}

-- one link: the numbers of the packets that wait on it, rising, and whether it is cut
pub record LinkValue : Type 0 where
  pub waiting : List ℕ
  pub is_cut : Bool

-- the links, each at its place
pub record LinksValue : Type 0 where
  pub links : List LinkValue

-- how many links there are: one each way between a client and a server
abbrev pub link_count : ℕ
link_count = 64

-- a link on which nothing waits, and which isn't cut
abbrev pub idle_link : LinkValue
idle_link = record { waiting = []; is_cut = false }

-- nothing waits, and no link is cut
abbrev pub idle_links : LinksValue
idle_links = record { links = replicate link_count idle_link }

-- the place of the link from client 0 to a server; those from the other clients follow
abbrev pub first_to : ServerId → ℕ
first_to A = 0
first_to B = 16

-- the place of the link from a server to client 0; those to the other clients follow
abbrev pub first_from : ServerId → ℕ
first_from A = 32
first_from B = 48

-- the place of a client's link, where client 0's is given; none: there is no such client
abbrev pub place_of : ℕ → ClientId → Option ℕ
place_of first client = if nat_lt client.0 clients then Some (first + client.0) else None

-- the place of the link from one node to another; none: there is no such link
abbrev pub link_between : NodeId → NodeId → Option ℕ
link_between (Client client) (Server server) = place_of (first_to server) client
link_between (Server server) (Client client) = place_of (first_from server) client
link_between (Client from) (Client to) = None
link_between (Server from) (Server to) = None

-- the link at a place
abbrev pub link_at : LinksValue → Option ℕ → Option LinkValue
link_at links None = None
link_at links (Some place) = slice_get links.links place

-- the numbers that wait on a link
abbrev pub waiting_of : Option LinkValue → List ℕ
waiting_of None = []
waiting_of (Some link) = link.waiting

-- whether a link is cut
abbrev pub cut_of : Option LinkValue → Bool
cut_of None = false
cut_of (Some link) = link.is_cut

-- the numbers of the packets that wait on the link from one node to another, rising
abbrev pub waiting : LinksValue → NodeId → NodeId → List ℕ
waiting links from to = waiting_of (link_at links (link_between from to))

-- whether the link from one node to another is cut
abbrev pub is_cut : LinksValue → NodeId → NodeId → Bool
is_cut links from to = cut_of (link_at links (link_between from to))

-- the packet of this number waits on the link from one node to another
abbrev pub Waits : LinksValue → NodeId → NodeId → ℕ → Type 0
Waits links from to number = Contains (waiting links from to) number

-- the packet of this number waits for a node: on the link from some node
pub record WaitsFor (links : LinksValue) (to : NodeId) (number : ℕ) : Type 0 where
  pub from : NodeId
  pub waits : Waits links from to number

-- the least number of which a property holds; none: it holds of no number
abbrev pub IsLeast : (ℕ → Type 0) → Option ℕ → Type 0
IsLeast Property None = (number : ℕ) → Property number → ⊥
IsLeast Property (Some least) = Property least × ((number : ℕ) → Property number → least ≤ number)

-- the lesser of two numbers; of one, that one
abbrev pub lesser : Option ℕ → Option ℕ → Option ℕ
lesser None second = second
lesser (Some first) None = Some first
lesser (Some first) (Some second) = Some (min first second)

-- the numbers, with one at its place among them
abbrev pub with_number : ℕ → List ℕ → List ℕ
with_number number numbers = insert_key nat_cmp numbers number

-- the numbers without one
abbrev pub without_number : ℕ → List ℕ → List ℕ
without_number number numbers = remove_key (is_at (nat_cmp number)) numbers

-- a packet was sent on a link: it waits there, unless the link is cut
abbrev pub sent : ℕ → LinkValue → LinkValue
sent number link = if link.is_cut then link else record link { waiting = with_number number link.waiting }

-- a packet waits on a link no longer
abbrev pub removed : ℕ → LinkValue → LinkValue
removed number link = record link { waiting = without_number number link.waiting }

-- a link was cut: all that waited there is lost
abbrev pub cut : LinkValue → LinkValue
cut link = record { waiting = []; is_cut = true }

-- a link was mended: what is sent there waits again, and what was lost stays lost
abbrev pub mended : LinkValue → LinkValue
mended link = record link { is_cut = false }

-- the link at a place is changed, and no other; where there is none, nothing is
abbrev pub changed_at : (LinkValue → LinkValue) → Option ℕ → LinksValue → LinksValue
changed_at change None links = links
changed_at change (Some place) links = record { links = slice_set links.links place (change (slice_index_or links.links place idle_link)) }

-- a packet was sent from one node to another
abbrev pub after_send : ℕ → NodeId → NodeId → LinksValue → LinksValue
after_send number from to links = changed_at (sent number) (link_between from to) links

-- a packet from one node to another was delivered or lost
abbrev pub after_remove : ℕ → NodeId → NodeId → LinksValue → LinksValue
after_remove number from to links = changed_at (removed number) (link_between from to) links

-- the link from one node to another was cut
abbrev pub after_cut : NodeId → NodeId → LinksValue → LinksValue
after_cut from to links = changed_at cut (link_between from to) links

-- the link from one node to another was mended
abbrev pub after_mend : NodeId → NodeId → LinksValue → LinksValue
after_mend from to links = changed_at mended (link_between from to) links

-- each number stands below those after it
abbrev pub IsRising : List ℕ → Type 0
IsRising numbers = IsStrictlySortedBy nat_cmp numbers

-- there are all links, and on each the numbers rise
pub record IsLinks (links : List LinkValue) : Type 0 where
  pub count : length links ≡ link_count
  pub rise : All (λ link. IsRising link.waiting) links

-- a packet, of a number from one node to another, is the first packet
abbrev pub IsPacket : ℕ → NodeId → NodeId → ℕ → NodeId → NodeId → Type 0
IsPacket first sender hearer number from to = (number ≡ first) × (from ≡ sender) × (to ≡ hearer)

-- there is a link from one node to another, and it isn't cut
pub record Takes (links : LinksValue) (from to : NodeId) : Type 0 where
  pub link : LinkValue
  pub is_there : link_at links (link_between from to) ≡ Some link
  pub is_whole : link.is_cut ≡ false
