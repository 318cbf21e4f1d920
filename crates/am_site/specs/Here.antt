-- What an instance goes by where something happens to a tenant.
use Rattle.am_cluster.specs.Here.{Here}
use Rattle.am_site.specs.declared.here.Here.{Here as Given}

-- what an instance of a private cluster goes by
abbrev pub here_of : Given → Here
here_of given = record {
  tenant = given.tenant.now;
  instance = given.instance;
  incarnation = given.incarnation;
  moment = given.moment;
  limits = given.limits;
  epoch = given.epoch;
  three = given.three.now;
  stayed = given.has_stayed;
  incarnations = given.incarnations.now;
}
