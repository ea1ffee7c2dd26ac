-- `kinds::Kind::of`: each arm by its kind; the last by none of them.
use mathlib.Core.Path.{ap, sym}
use native.Mathlib.Omega.{arith}
use Rattle.kinds.proofs.Statements.{unknown_exactly}
use Rattle.kinds.specs.Kinds.{parents_table, parents_in, parents_of, is_known}
use Rattle.kinds.proofs.Kind.of.Goals as goal

pub returns-in-1953460082-clause-known : goal.returns-in-1953460082-clause-known
unfolding is_known parents_of parents_in parents_table
returns-in-1953460082-clause-known c = ap is_known (sym c.in-1953460082.is)

pub returns-in-1818521453-clause-known : goal.returns-in-1818521453-clause-known
unfolding is_known parents_of parents_in parents_table
returns-in-1818521453-clause-known c = ap is_known (sym c.in-1818521453.is)

pub returns-in-1752393069-clause-known : goal.returns-in-1752393069-clause-known
unfolding is_known parents_of parents_in parents_table
returns-in-1752393069-clause-known c = ap is_known (sym c.in-1752393069.is)

pub returns-in-1752394850-clause-known : goal.returns-in-1752394850-clause-known
unfolding is_known parents_of parents_in parents_table
returns-in-1752394850-clause-known c = ap is_known (sym c.in-1752394850.is)

pub returns-in-1818585971-clause-known : goal.returns-in-1818585971-clause-known
unfolding is_known parents_of parents_in parents_table
returns-in-1818585971-clause-known c = ap is_known (sym c.in-1818585971.is)

pub returns-in-1701736290-clause-known : goal.returns-in-1701736290-clause-known
unfolding is_known parents_of parents_in parents_table
returns-in-1701736290-clause-known c = ap is_known (sym c.in-1701736290.is)

pub returns-in-1684564841-clause-known : goal.returns-in-1684564841-clause-known
unfolding is_known parents_of parents_in parents_table
returns-in-1684564841-clause-known c = ap is_known (sym c.in-1684564841.is)

pub returns-in-1953721955-clause-known : goal.returns-in-1953721955-clause-known
unfolding is_known parents_of parents_in parents_table
returns-in-1953721955-clause-known c = ap is_known (sym c.in-1953721955.is)

pub returns-in-1835626081-clause-known : goal.returns-in-1835626081-clause-known
unfolding is_known parents_of parents_in parents_table
returns-in-1835626081-clause-known c = ap is_known (sym c.in-1835626081.is)

pub returns-in-1987212643-clause-known : goal.returns-in-1987212643-clause-known
unfolding is_known parents_of parents_in parents_table
returns-in-1987212643-clause-known c = ap is_known (sym c.in-1987212643.is)

pub returns-in-1448037699-clause-known : goal.returns-in-1448037699-clause-known
unfolding is_known parents_of parents_in parents_table
returns-in-1448037699-clause-known c = ap is_known (sym c.in-1448037699.is)

pub returns-in-1718187118-clause-known : goal.returns-in-1718187118-clause-known
unfolding is_known parents_of parents_in parents_table
returns-in-1718187118-clause-known c = ap is_known (sym c.in-1718187118.is)

pub returns-in-1819566445-clause-known : goal.returns-in-1819566445-clause-known
unfolding is_known parents_of parents_in parents_table
returns-in-1819566445-clause-known c = ap is_known (sym c.in-1819566445.is)

pub returns-in-1701603686-clause-known : goal.returns-in-1701603686-clause-known
unfolding is_known parents_of parents_in parents_table
returns-in-1701603686-clause-known c = ap is_known (sym c.in-1701603686.is)

pub returns-in-1953721961-clause-known : goal.returns-in-1953721961-clause-known
unfolding is_known parents_of parents_in parents_table
returns-in-1953721961-clause-known c = ap is_known (sym c.in-1953721961.is)

pub returns-in-1635018093-clause-known : goal.returns-in-1635018093-clause-known
unfolding is_known parents_of parents_in parents_table
returns-in-1635018093-clause-known c = ap is_known (sym c.in-1635018093.is)

pub returns-in_default-clause-known : goal.returns-in_default-clause-known
returns-in_default-clause-known c = sym ((unknown_exactly c.args.number).1 (grind arith))
