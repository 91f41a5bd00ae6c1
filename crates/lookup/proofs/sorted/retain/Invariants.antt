use Rattle.std.proofs.Common.{◌≡◌, List, ◌-◌, ◌≤◌, ◌++◌, length, take, drop}
use denote.Param.Always.{always_mut}
use Rattle.std.specs.Fn.{CalledAt}
use Rattle.std.specs.List.Retain.{IsFiltered}
use Rattle.lookup.proofs.sorted.retain.Given as goal

-- the calls so far keep what stands at the front, whatever the calls that are left keep
abbrev pub invariant-loop-i : goal.invariant-loop-i
invariant-loop-i g l =
    let n = l.i-end in
    record {
      callable : always_mut g.F.FnMut l.keep;
      long : length l.items ≡ length l.initial.items;
      left : l.left ≤ l.i;
      rest : drop l.i l.items ≡ drop l.i l.initial.items;
      kept : (zs : List g.row.T.Denot) → IsFiltered (CalledAt g.F.FnMut) l.keep (take (n - l.i) (drop l.i l.initial.items)) zs
          → IsFiltered (CalledAt g.F.FnMut) l.initial.keep (take n l.initial.items) (take l.left l.items ++ zs);
    }
