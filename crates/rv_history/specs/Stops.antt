-- Breakpoints, and bytes that are watched for changes, reads or accesses.
use Rattle.std.specs.Prelude.{ℕ, List, [], ◌∷◌, ◌≡◌, ◌≢◌, ◌⊎◌, ◌==◌, ◌||◌, Bool, true, false, Option, Some, None, if◌then◌else◌, is_some, nat_le, nat_lt, option_map}
use Rattle.std.specs.Str.{bytes_eq}
use Rattle.std.specs.FinMap as fin
use Rattle.std.specs.List.{filter_map, find, flat_map, list_any, range_with_len}
use Rattle.rv_trace.specs.Bus.{BusContents}
use Rattle.rv_trace.specs.State.{State}
use Rattle.rv_history.specs.Accesses.{access_at, is_hit}
use Rattle.rv_history.specs.declared.access.Access.{Access}
use Rattle.rv_history.specs.declared.bounds.Bounds.{Bounds}
use Rattle.rv_history.specs.declared.bounds.Bounds.TheVariants as bounds
use Rattle.rv_history.specs.declared.stops.WatchHit.{WatchHit}
use Rattle.rv_history.specs.declared.stops.WatchHit.TheVariants as watch_hit
use Rattle.rv_history.specs.declared.stops.Stops.{Stops}
use Rattle.rv_history.specs.declared.stops.Watch.{Watch}

-- whether there is a breakpoint at the address
abbrev pub is_break : Stops → ℕ → Bool
is_break stops pc = list_any (λ address. address == pc) stops.breaks

-- there are no watchpoints
abbrev pub AreUnwatched : Stops → Type 0
AreUnwatched stops = (stops.watches ≡ []) × ((stops.reads ≡ []) × (stops.accesses ≡ []))

-- there are no breakpoints and no watchpoints
abbrev pub AreEmpty : Stops → Type 0
AreEmpty stops = (stops.breaks ≡ []) × AreUnwatched stops

-- whether an address is outside of the bounds of a move: below `low`, or at or above `high`
abbrev pub is_outside : Bounds → ℕ → Bool
is_outside bounds.All pc = false
is_outside (bounds.Within low high) pc = nat_lt pc low || nat_le high pc

-- whether a forward move stops before an instruction at this address: there is a breakpoint, or the address is outside of the bounds
abbrev pub halts_at : Stops → Bounds → ℕ → Bool
halts_at stops bounds pc = is_break stops pc || is_outside bounds pc

-- the bytes of a watchpoint's range; those outside the regions are left out
abbrev pub watch_bytes : BusContents → Watch → List ℕ
watch_bytes bus watch = filter_map (fin.get bus.memory) (range_with_len watch.address watch.count)

-- the bytes that are watched for changes, in the order of the watchpoints; those outside the regions are left out
unfoldable pub watched_bytes : Stops → BusContents → List ℕ
watched_bytes stops bus = flat_map (watch_bytes bus) stops.watches

-- the address of the first watchpoint whose bytes differ between two buses, or `None` if there is none
unfoldable pub first_differing : List Watch → BusContents → BusContents → Option ℕ
first_differing [] first second = None
first_differing (watch ∷ rest) first second =
    if bytes_eq (watch_bytes first watch) (watch_bytes second watch) then first_differing rest first second else Some watch.address

-- ---- watchpoint hits

-- the address of the first watchpoint that an access triggers, or `None` if it triggers none
abbrev pub first_hit : Access → List Watch → Option ℕ
first_hit access watches = option_map (λ (watch : Watch). watch.address) (find (is_hit access) watches)

-- the address of the first watchpoint that an access triggers, or `None` if the access is not a read or triggers none
abbrev pub first_read : Access → List Watch → Option ℕ
first_read access watches = if access.is_read then first_hit access watches else None

-- the result of `make_hit` for the address, or `fallback` if there is no address
abbrev pub hit_or : (ℕ → WatchHit) → Option ℕ → Option WatchHit → Option WatchHit
hit_or make_hit None fallback = fallback
hit_or make_hit (Some address) fallback = Some (make_hit address)

-- the first read watchpoint that the access triggers, or else the first access watchpoint, or `None` if it triggers neither or there is no
-- access
abbrev pub hit_by_access : Stops → Option Access → Option WatchHit
hit_by_access stops None = None
hit_by_access stops (Some access) = hit_or watch_hit.Read (first_read access stops.reads)
    (hit_or watch_hit.Access (first_hit access stops.accesses) None)

-- the first read watchpoint that the instruction at the pc triggers, or else the first access watchpoint, or `None` if it triggers neither
abbrev pub access_hit : Stops → State → Option WatchHit
access_hit stops s = hit_by_access stops (access_at s)

-- the first watchpoint that the step from the state `s` to `t` triggers, or `None` if it triggers none; watchpoints for changes come first,
-- then those for reads, then those for accesses
abbrev pub first_triggered : Stops → State → State → Option WatchHit
first_triggered stops s t = hit_or watch_hit.Change (first_differing stops.watches s.bus t.bus) (access_hit stops s)

-- a step from state `s` to state `t` triggers a watchpoint
abbrev pub TriggersWatch : Stops → State → State → Type 0
TriggersWatch stops s t = (watched_bytes stops s.bus ≢ watched_bytes stops t.bus) ⊎ (is_some (access_hit stops s) ≡ true)

-- a step from state `s` to state `t` triggers no watchpoint
abbrev pub TriggersNoWatch : Stops → State → State → Type 0
TriggersNoWatch stops s t = (watched_bytes stops s.bus ≡ watched_bytes stops t.bus) × (is_some (access_hit stops s) ≡ false)
