-- `next` of lent rings meets its contract: the first ring is read off the front, and the others stand behind it. Assumes nothing.
use Rattle.std.proofs.Common.{rules}
use Rattle.rings.proofs.LentRings.{no_rings, first-fits, others_lent, first_ring, fewer-rings}
use Rattle.rings.proofs.lent.LentRingsIterator.next.Goals as goal

pub returns-in_err-length-clause-steps : goal.returns-in_err-length-clause-steps
returns-in_err-length-clause-steps c = let none = no_rings _ c.args.self.now.coords.now c.in_err-length.ensures.cases in search (rules, none)

pub split_at-requires : goal.split_at-requires
split_at-requires c = first-fits _ _ _ _ c.in_ok-length.ensures.cases.0 c.args.self.now.lent

pub invariant_of-self : goal.invariant_of-self
invariant_of-self c = record { lent = others_lent _ _ _ _ _ c.in_ok-length.ensures.cases.0 c.split_at.ensures.back c.args.self.now.lent }

pub returns-clause-steps : goal.returns-clause-steps
returns-clause-steps c = first_ring _ _ _ _ _ _ c.in_ok-length.ensures.cases.0 c.split_at.ensures.front c.split_at.ensures.back

pub returns-clause-goes : goal.returns-clause-goes
returns-clause-goes c = let e = first_ring _ _ _ _ _ _ c.in_ok-length.ensures.cases.0 c.split_at.ensures.front c.split_at.ensures.back in record {
  on = λ _. (tt, tt, fewer-rings e);
  keeps = tt;
  rests = λ _. tt;
}
