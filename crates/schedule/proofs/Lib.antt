mod Leaving
mod NodesLemmas
mod Padding
