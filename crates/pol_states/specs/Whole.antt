-- States as they are listed.
use Rattle.pol_access.specs.Order.{grants_in_order, joins_in_order, members_in_order}
use Rattle.pol_state.specs.Rows.{Rows}

-- a state as its changes make it anew: members, joins and grants stand in rising order, and nothing is charged
unfoldable pub listed_state : Rows → Rows
listed_state s = record s {
  access = record s.access {
    members = members_in_order s.access.members;
    joins = joins_in_order s.access.joins;
    grants = grants_in_order s.access.grants;
  };
  charged = 0;
}
