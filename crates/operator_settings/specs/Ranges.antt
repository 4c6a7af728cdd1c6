-- Ranges of addresses. (RFC 4632, 3.1: an address and how many of its first bits are the network's; RFC 4291, 2.5.5.2:
-- addresses of IPv6 that stand for one of IPv4.)
use Rattle.std.specs.Prelude.{◌≡◌, ℕ, ◌-◌, ◌/◌, ◌^◌, ◌==◌, Bool, false}
use Rattle.std.specs.declared.net.ip_addr.IpAddr.{IpAddr}
use Rattle.std.specs.declared.net.ip_addr.IpAddr.TheVariants.{V4, V6}
use Rattle.std.specs.declared.net.ipv4_addr.Ipv4Addr.{Ipv4Addr}
use Rattle.std.specs.declared.net.ipv6_addr.Ipv6Addr.{Ipv6Addr}
use Rattle.std.specs.Net.Addr.{IsCanonicalOf, MatchIp, ipv4_bits, ipv6_bits}

-- all addresses that begin with so many bits of one
pub record Range : Type 0 where
  pub network : IpAddr
  pub bits : ℕ

-- as numbers, both have the same first bits
abbrev pub begin_alike4 : ℕ → Ipv4Addr → Ipv4Addr → Bool
begin_alike4 bits one other = ipv4_bits one / 2 ^ (32 - bits) == ipv4_bits other / 2 ^ (32 - bits)

abbrev pub begin_alike6 : ℕ → Ipv6Addr → Ipv6Addr → Bool
begin_alike6 bits one other = ipv6_bits one / 2 ^ (128 - bits) == ipv6_bits other / 2 ^ (128 - bits)

-- no address of one kind is of a range of the other
abbrev pub in_network : ℕ → IpAddr → IpAddr → Bool
in_network bits (V4 network) (V4 address) = begin_alike4 bits network address
in_network bits (V6 network) (V6 address) = begin_alike6 bits network address
in_network bits _ _ = false

abbrev pub holds : Range → IpAddr → Bool
holds r address = in_network r.bits r.network address

-- the address itself, or the address of IPv4 that it stands for
abbrev pub IsPlain : IpAddr → IpAddr → Type 0
IsPlain address plain = MatchIp address (λ _. plain ≡ address) (λ a. IsCanonicalOf a plain)
